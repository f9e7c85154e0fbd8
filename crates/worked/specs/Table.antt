-- Worked cases: what the definitions that the contracts cite answer on thirteen copies in a tree of threes, on four
-- copies with votes, on trees and votes that are allowed or not, and on components at the ends of their range.
use Rattle.std.specs.Prelude.{◌≡◌, ℕ, true, false, not, List, [], ◌∷◌, ℤ, pos, negsuc, Some, None}
use Rattle.families.specs.Copies.{among, marks}
use Rattle.families.specs.Levels.{levels_rule}
use Rattle.families.specs.Meaning.{Meaning}
use Rattle.families.specs.Trees.{tree_rule}
use Rattle.families.specs.Votes.{Allowed, votes_rule}
use Rattle.families.specs.declared.Quorum.{Quorum}
use Rattle.families.specs.declared.Quorum.TheVariants.{Read, Write}
use Rattle.parts.specs.Parts.{component_in, component_payload}
use Rattle.quorum.specs.Choosing.{no_quorum}
use Rattle.quorum.specs.Faults.{rule_line, tree_line}
use Rattle.quorum.specs.Shapes.{allowed_tree}
use Rattle.quorum.specs.Voting.{NoVotesRule, Small}
use Rattle.quorum.specs.declared.fault.RuleFault.TheVariants.{VotesNotAllowed}
use Rattle.quorum.specs.declared.fault.TreeFault.TheVariants.{NotAllowed}
use Rattle.values.specs.Faults.{value_line}
use Rattle.values.specs.declared.fault.Part.TheVariants.{First}
use Rattle.values.specs.declared.fault.ValueFault.TheVariants.{OutOfRange}

pub data Case : Type 0 where
  -- a rule chooses, while these copies are away
  chooses : Meaning → Quorum → List ℕ → Case
  -- a tree of this degree and height is made
  makes_tree : ℕ → ℕ → Case
  -- a rule of these votes and this write threshold is made
  makes_votes : List ℕ → ℕ → Case
  -- a component in tenths is coded
  codes : ℤ → Case

pub data Answer : Type 0 where
  copies : List ℕ → Answer
  payload : ℕ → Answer
  made : Answer
  refused : ℕ → Answer

-- the case has the answer
abbrev pub Has : Case → Answer → Type 0
Has (chooses m q away) (copies l) = m.choice q (marks m.n (λ c. not (among away c))) ≡ Some (marks m.n (among l))
Has (chooses m q away) (refused k) = (m.choice q (marks m.n (λ c. not (among away c))) ≡ None) × ((rule_line (no_quorum q)).number ≡ k)
Has (chooses m q away) (payload p) = ⊥
Has (chooses m q away) made = ⊥
Has (makes_tree b h) made = allowed_tree b h ≡ true
Has (makes_tree b h) (refused k) = (allowed_tree b h ≡ false) × ((tree_line NotAllowed).number ≡ k)
Has (makes_tree b h) (copies l) = ⊥
Has (makes_tree b h) (payload p) = ⊥
Has (makes_votes votes w) made = Small votes × Allowed votes w
Has (makes_votes votes w) (refused k) = NoVotesRule votes w VotesNotAllowed × ((rule_line VotesNotAllowed).number ≡ k)
Has (makes_votes votes w) (copies l) = ⊥
Has (makes_votes votes w) (payload p) = ⊥
Has (codes z) (payload p) = (component_in z ≡ true) × (component_payload z ≡ p)
Has (codes z) (refused k) = (component_in z ≡ false) × ((value_line (OutOfRange First)).number ≡ k)
Has (codes z) (copies l) = ⊥
Has (codes z) made = ⊥

abbrev pub thirteen : Meaning
thirteen = tree_rule 1 2

abbrev pub four_votes : List ℕ
four_votes = 2 ∷ 1 ∷ 1 ∷ 0 ∷ []

abbrev pub by_votes : Meaning
by_votes = votes_rule four_votes 3

abbrev pub table : List (Case × Answer)
table =
    (chooses thirteen Write [], copies (1 ∷ 2 ∷ 3 ∷ 5 ∷ 6 ∷ 8 ∷ 9 ∷ []))
    ∷ (chooses thirteen Read [], copies (1 ∷ []))
    ∷ (chooses thirteen Read (1 ∷ []), copies (2 ∷ 3 ∷ []))
    ∷ (chooses thirteen Write (1 ∷ []), refused 7)
    ∷ (chooses thirteen Read (1 ∷ 2 ∷ 3 ∷ []), copies (4 ∷ 5 ∷ 6 ∷ []))
    ∷ (chooses thirteen Read (1 ∷ 2 ∷ 3 ∷ 4 ∷ []), copies (5 ∷ 6 ∷ 8 ∷ 9 ∷ []))
    ∷ (chooses thirteen Read (1 ∷ 2 ∷ 3 ∷ 5 ∷ 6 ∷ 8 ∷ 9 ∷ []), refused 6)
    ∷ (chooses (levels_rule 1 2) Write (4 ∷ 7 ∷ 8 ∷ 11 ∷ 12 ∷ []), copies (1 ∷ 2 ∷ 3 ∷ 5 ∷ 6 ∷ 9 ∷ 10 ∷ 13 ∷ []))
    ∷ (chooses thirteen Write (4 ∷ 7 ∷ 8 ∷ 11 ∷ 12 ∷ []), copies (1 ∷ 2 ∷ 3 ∷ 5 ∷ 6 ∷ 9 ∷ 10 ∷ []))
    ∷ (chooses by_votes Read [], copies (1 ∷ []))
    ∷ (chooses by_votes Write [], copies (1 ∷ 2 ∷ []))
    ∷ (chooses by_votes Read (1 ∷ []), copies (2 ∷ 3 ∷ []))
    ∷ (chooses by_votes Write (1 ∷ []), refused 7)
    ∷ (makes_votes four_votes 2, refused 16)
    ∷ (makes_votes four_votes 5, refused 16)
    ∷ (makes_votes four_votes 4, made)
    ∷ (makes_tree 3 3, made)
    ∷ (makes_tree 3 4, refused 15)
    ∷ (makes_tree 4 1, refused 15)
    ∷ (codes (pos 9999999), payload 19999999)
    ∷ (codes (negsuc 9999998), payload 1)
    ∷ (codes (pos 10000000), refused 20)
    ∷ []

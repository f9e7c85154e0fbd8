-- Votes: each copy has a number of votes, and a set holds a quorum if its votes reach a threshold.
use Rattle.std.specs.Prelude.{ℕ, zero, suc, ◌+◌, ◌-◌, ◌*◌, ◌<◌, ◌≤◌, Bool, cond, not, ◌&&◌, List, [], ◌∷◌, length, Some, None, Option, ◌==◌, nat_le}
use Rattle.std.specs.Option.{option_map}
use Rattle.families.specs.Copies.{Copies, among, everything, marked, marks}
use Rattle.families.specs.Meaning.{Meaning}
use Rattle.families.specs.Trees.{with_copies}
use Rattle.families.specs.declared.Quorum.{Quorum}
use Rattle.families.specs.declared.Quorum.TheVariants.{Read, Write}

-- the votes of the set, of copies from c on that have these votes
abbrev pub votes_from : ℕ → List ℕ → Copies → ℕ
votes_from c [] s = 0
votes_from c (v ∷ vs) s = cond (s c) v 0 + votes_from (c + 1) vs s

abbrev pub votes_of : List ℕ → Copies → ℕ
votes_of votes s = votes_from 1 votes s

abbrev pub total : List ℕ → ℕ
total votes = votes_of votes everything

-- the write threshold w, and the read threshold that goes with it
abbrev pub threshold : Quorum → List ℕ → ℕ → ℕ
threshold Write votes w = w
threshold Read votes w = total votes + 1 - w

abbrev pub votes_hold : Quorum → List ℕ → ℕ → Copies → Bool
votes_hold q votes w s = nat_le (threshold q votes w) (votes_of votes s)

-- Copies in reach are taken in order, from c on, until their votes reach the threshold. A copy with no votes is
-- not taken.
abbrev pub votes_choice : ℕ → ℕ → List ℕ → Copies → Option (List ℕ)
votes_choice zero c vs s = Some []
votes_choice (suc t) c [] s = None
votes_choice (suc t) c (v ∷ vs) s =
    cond (s c && not (v == 0)) (with_copies (c ∷ []) (votes_choice (suc t - v) (c + 1) vs s)) (votes_choice (suc t) (c + 1) vs s)

-- the thresholds that are allowed
pub record Allowed (votes : List ℕ) (w : ℕ) : Type 0 where
  pub some : 1 ≤ length votes
  pub few : length votes ≤ 64
  pub reachable : w ≤ total votes
  pub over_half : total votes < 2 * w

-- the rule of the votes
abbrev pub votes_rule : List ℕ → ℕ → Meaning
votes_rule votes w = record {
  n = length votes;
  holds = λ q s. votes_hold q votes w s;
  choice = λ q reach. option_map (λ l. marks (length votes) (among l)) (votes_choice (threshold q votes w) 1 votes (marked (length votes) reach));
}

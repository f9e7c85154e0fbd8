-- What a choosing call answers.
use Rattle.std.specs.Prelude.{◌≡◌, ℕ, false, List, length, Some, None, Ok, Err, Option, Result}
use Rattle.families.specs.Copies.{marked, marks}
use Rattle.families.specs.Meaning.{Meaning}
use Rattle.families.specs.declared.Quorum.{Quorum}
use Rattle.families.specs.declared.Quorum.TheVariants.{Read, Write}
use Rattle.quorum.specs.Sets.{members}
use Rattle.quorum.specs.declared.copy_set.CopySet.{CopySet}
use Rattle.quorum.specs.declared.fault.RuleFault.{RuleFault}
use Rattle.quorum.specs.declared.fault.RuleFault.TheVariants.{EvenLevel, Length, NoReadQuorum, NoWriteQuorum, VotesNotAllowed}
use Rattle.quorum.specs.declared.rule.Chosen.{Chosen}

-- both lists have a mark for each of the n copies
abbrev pub Fitting : Meaning → List ℕ → List ℕ → Type 0
Fitting m reach before = (length reach ≡ m.n) × (length before ≡ m.n)

-- no quorum of this sort is in reach
abbrev pub NoQuorum : Meaning → Quorum → List ℕ → Type 0
NoQuorum m q reach = m.holds q (marked m.n reach) ≡ false

-- why the call refuses
abbrev pub Refuses : Meaning → Quorum → List ℕ → List ℕ → RuleFault → Type 0
Refuses m q reach before (Length k) = (k ≡ m.n) × (Fitting m reach before → ⊥)
Refuses m q reach before NoReadQuorum = Fitting m reach before × (q ≡ Read) × NoQuorum m q reach
Refuses m q reach before NoWriteQuorum = Fitting m reach before × (q ≡ Write) × NoQuorum m q reach
Refuses m q reach before VotesNotAllowed = ⊥
Refuses m q reach before (EvenLevel l) = ⊥

-- accepted, the marks afterwards are the rule's choice; refused, they are as they were
abbrev pub Chooses : Meaning → Quorum → List ℕ → List ℕ → List ℕ → Result Chosen RuleFault → Type 0
Chooses m q reach before after (Ok c) = Fitting m reach before × (m.choice q reach ≡ Some after)
Chooses m q reach before after (Err f) = (after ≡ before) × Refuses m q reach before f

-- a set that was chosen, handed to the caller
abbrev pub no_quorum : Quorum → RuleFault
no_quorum Read = NoReadQuorum
no_quorum Write = NoWriteQuorum

abbrev pub Gives : Quorum → Option CopySet → List ℕ → List ℕ → Result Chosen RuleFault → Type 0
Gives q (Some s) before after (Ok c) = after ≡ marks (length before) (members s)
Gives q (Some s) before after (Err f) = ⊥
Gives q None before after (Ok c) = ⊥
Gives q None before after (Err f) = (after ≡ before) × (f ≡ no_quorum q)

-- Votes that are handed over.
use Rattle.std.specs.Prelude.{◌≡◌, ℕ, ◌<◌, ◌≤◌, ◌⊎◌, List, length}
use Rattle.families.specs.Votes.{Allowed}
use Rattle.std.specs.List.{AllByRecursion}
use Rattle.quorum.specs.declared.fault.RuleFault.{RuleFault}
use Rattle.quorum.specs.declared.fault.RuleFault.TheVariants.{EvenLevel, Length, NoReadQuorum, NoWriteQuorum, VotesNotAllowed}

-- no copy has more than 255 votes
abbrev pub Small : List ℕ → Type 0
Small votes = AllByRecursion (λ v. v ≤ 255) votes

-- why there is no rule of these votes and this write threshold
abbrev pub NoVotesRule : List ℕ → ℕ → RuleFault → Type 0
NoVotesRule votes w (Length k) = ((k ≡ 1) × (length votes ≡ 0)) ⊎ ((k ≡ 64) × (64 < length votes))
NoVotesRule votes w VotesNotAllowed = (1 ≤ length votes) × (length votes ≤ 64) × (Small votes × Allowed votes w → ⊥)
NoVotesRule votes w NoReadQuorum = ⊥
NoVotesRule votes w NoWriteQuorum = ⊥
NoVotesRule votes w (EvenLevel l) = ⊥

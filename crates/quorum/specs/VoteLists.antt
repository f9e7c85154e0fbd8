-- The votes of a list, copy by copy.
use Rattle.std.specs.Prelude.{ℕ, List, take}
use Rattle.quorum.specs.declared.votes.Votes.{Votes}

abbrev pub votes_in : Votes → List ℕ
votes_in votes = take votes.count votes.bytes

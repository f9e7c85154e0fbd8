use Rattle.std.proofs.Common.{◌≡◌, length, take}
use Rattle.quorum.proofs.votes.Votes.new.Given as goal

abbrev pub invariant-loop-i : goal.invariant-loop-i
invariant-loop-i l = (length l.bytes ≡ 64) × (take l.i l.bytes ≡ take l.i l.votes)

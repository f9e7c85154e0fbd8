use Rattle.std.proofs.Common.{◌≡◌, take}
use Rattle.families.specs.Copies.{marks}
use Rattle.quorum.specs.Sets.{members}
use Rattle.quorum.proofs.marks.fill_marks.Given as goal

-- the first i marks are written
abbrev pub invariant-loop-i : goal.invariant-loop-i
invariant-loop-i l = take l.i l.choice ≡ marks l.i (members l.set)

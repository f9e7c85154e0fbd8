use Rattle.families.specs.Copies.{marked}
use Rattle.quorum.specs.Sets.{Same, members}
use Rattle.quorum.proofs.marks.marked_set.Given as goal

-- the first i copies are looked at
abbrev pub invariant-loop-i : goal.invariant-loop-i
invariant-loop-i l = Same (members l.set) (marked l.i l.reach)

use Rattle.std.proofs.Common.{◌-◌, refl, add-one, arith}
use Rattle.families.specs.Levels.{alone}
use Rattle.std.proofs.lemmas.List.FromFn.{length-range_with_len}
use Rattle.quorum.specs.Sets.{members}
use Rattle.quorum.proofs.Gathering.{gathered_done, gathered_none, gathered_one, gathered_skip}
use Rattle.quorum.proofs.Rows.{row_next}
use Rattle.quorum.proofs.level_rule.choose_half.Goals as goal
use Rattle.quorum.proofs.level_rule.choose_half.Goals.{else-wanted-gt0-via-then-wanted-gt0+else-has, else-wanted-gt0-via-else-wanted-gt0}

pub loop-copy-init : goal.loop-copy-init
loop-copy-init c =
    let row = c.args.row in
    rw (c.into_iter-copy-iterator.ensures.into_iter_gives, c.len.ensures.value, length-range_with_len row.start (row.end - row.start), add-one)
    (gathered_none (alone (members c.args.reach.now)) _ _ c.empty-chosen.ensures)

pub loop-copy-preserved-then-has : goal.loop-copy-preserved-then-has
loop-copy-preserved-then-has c =
    gathered_one (rw (← c.if-has.ensures.member, alone) refl) (omega (arith, c.if-wanted-gt0.true)) c.insert.ensures
    (rw (row_next _ _ _ c.in-Some.ensures.steps) at c.loop-copy.invariant)

pub loop-copy-preserved : goal.loop-copy-preserved
loop-copy-preserved c =
    let here = rw (row_next _ _ _ c.in-Some.ensures.steps) at c.loop-copy.invariant in
    elim c.else-wanted-gt0.branch [
      | else-wanted-gt0-via-then-wanted-gt0+else-has w ↦ gathered_skip (rw (← w.if-has.ensures.member, alone) tt) here
      | else-wanted-gt0-via-else-wanted-gt0 w ↦ gathered_done (omega (arith, w.if-wanted-gt0.false)) here
    ]

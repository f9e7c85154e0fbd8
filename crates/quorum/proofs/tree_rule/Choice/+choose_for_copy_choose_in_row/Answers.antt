use Rattle.std.proofs.Common.{true, false, [], ◌∷◌, sym, arith}
use Rattle.std.proofs.lemmas.List.{drop_all, drop_more}
use Rattle.quorum.specs.Sets.{members}
use Rattle.quorum.proofs.Gathering.{gathered_done, gathered_skip, gathered_take, gathered_too_few, reading_away, writing_here, writing_none}
use Rattle.quorum.proofs.Fitting.{children_fit}
use Rattle.quorum.proofs.Rows.{pass_skips, pass_takes, row_next}
use Rattle.quorum.proofs.tree_rule.Choice.+choose_for_copy_choose_in_row.Goals as goal
use Rattle.quorum.proofs.tree_rule.Choice.+choose_for_copy_choose_in_row.Goals.{choose_in_row-else-wanted-gt0-via-then-wanted-gt0+else-has-near, choose_in_row-else-wanted-gt0-via-else-wanted-gt0}

pub choose_for_copy-returns-in_err-chosen-in-Write : goal.choose_for_copy-returns-in_err-chosen-in-Write
choose_for_copy-returns-in_err-chosen-in-Write t c =
    let x = c.args.self.now in
    rw c.from_residual.ensures (writing_none x.quorum x.half x.height (members x.reach.now) x.copy (omega (arith, c.if-self-eq0.false)) c.in-Write.is (sym c.if-here-3.ensures.member) c.in_err-chosen-in-Write.ensures)

pub choose_for_copy-returns-else-here-2 : goal.choose_for_copy-returns-else-here-2
choose_for_copy-returns-else-here-2 t c =
    let x = c.args.self.now in
    reading_away x.quorum x.half x.height (members x.reach.now) x.copy (omega (arith, c.if-self-eq0.false)) _ c.in-Read.is (sym c.if-here-2.ensures.member) c.choose_in_row.ensures

pub choose_for_copy-returns-in_ok-chosen-in-Write : goal.choose_for_copy-returns-in_ok-chosen-in-Write
choose_for_copy-returns-in_ok-chosen-in-Write t c =
    let x = c.args.self.now in
    writing_here x.quorum x.half x.height (members x.reach.now) x.copy (omega (arith, c.if-self-eq0.false)) _ _ c.in-Write.is (sym c.if-here-3.ensures.member) c.in_ok-chosen-in-Write.ensures c.insert.ensures

pub choose_in_row-loop-child-init : goal.choose_in_row-loop-child-init
choose_in_row-loop-child-init t c =
    let x = c.args.self.now in
    rw (c.into_iter-child-iterator.ensures.into_iter_gives, c.children-child-items.ensures) (
      children_fit x.half x.height x.copy c.requires x.fits,
      rw (drop_more (true ∷ false ∷ []) c.loop-near.near-index false c.loop-near-test.true) at c.loop-near.invariant,
    )

pub choose_in_row-invariant_of-below : goal.choose_in_row-invariant_of-below
choose_in_row-invariant_of-below t c =
    let fit = rw (row_next _ _ _ c.in-Some.ensures.steps) at c.loop-child.invariant.0 in
    record { small = c.args.self.now.small; fits = fit.0 }

pub choose_in_row-loop-child-preserved-in-Some-choose_for_copy : goal.choose_in_row-loop-child-preserved-in-Some-choose_for_copy
choose_in_row-loop-child-preserved-in-Some-choose_for_copy t c =
    let here = rw (row_next _ _ _ c.in-Some.ensures.steps) at c.loop-child.invariant in
    (here.0.1, gathered_take c.in-Some-choose_for_copy.below c.in-Some-choose_for_copy.ensures (omega (arith, c.if-wanted-gt0.true)) c.add_all.ensures (rw (pass_takes _ _ c.in-Some.child _ _ _ c.if-has-near.true c.has.ensures.member) at here.1))

pub choose_in_row-loop-child-preserved-in_default : goal.choose_in_row-loop-child-preserved-in_default
choose_in_row-loop-child-preserved-in_default t c =
    let here = rw (row_next _ _ _ c.in-Some.ensures.steps) at c.loop-child.invariant in
    (here.0.1, gathered_skip c.in_default.ensures (rw (pass_takes _ _ c.in-Some.child _ _ _ c.if-has-near.true c.has.ensures.member) at here.1))

pub choose_in_row-loop-child-preserved : goal.choose_in_row-loop-child-preserved
choose_in_row-loop-child-preserved t c =
    let here = rw (row_next _ _ _ c.in-Some.ensures.steps) at c.loop-child.invariant in (
      here.0.1,
      elim c.else-wanted-gt0.branch [
        | choose_in_row-else-wanted-gt0-via-then-wanted-gt0+else-has-near w ↦ rw (pass_skips _ _ c.in-Some.child _ _ _ w.if-has-near.false w.has.ensures.member) at here.1
        | choose_in_row-else-wanted-gt0-via-else-wanted-gt0 w ↦ gathered_done (omega (arith, w.if-wanted-gt0.false)) here.1
      ],
    )

pub choose_in_row-returns-else-wanted-eq0 : goal.choose_in_row-returns-else-wanted-eq0
choose_in_row-returns-else-wanted-eq0 t c =
    gathered_too_few (omega (arith, c.if-wanted-eq0.false)) (rw (drop_all c.loop-near.near-index (true ∷ false ∷ []) c.loop-near-test.false) at c.loop-near.invariant)

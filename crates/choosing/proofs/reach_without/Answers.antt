use Rattle.std.proofs.Common.{◌+◌, cond, refl, ap, ◌∙◌, arith, length-set}
use lib.ListN.{get_or-replicate}
use Rattle.std.proofs.lemmas.List.{take_all}
use Rattle.families.specs.Copies.{among}
use Rattle.choosing.proofs.Numbering.{copies_end, copy_missing, copy_passed, mark_more, marks_all}
use Rattle.choosing.proofs.reach_without.Goals as goal

pub loop-copy-init : goal.loop-copy-init
loop-copy-init c = (refl, refl, λ k lt. get_or-replicate 64 k 1 0 lt)

pub returns-then-copy-eq0 : goal.returns-then-copy-eq0
returns-then-copy-eq0 c = (_, copy_missing c.args.n c.args.away.now c.loop-copy.copy-index c.loop-copy-test.true c.loop-copy.invariant.1 (λ low high. omega (arith, c.then-copy-eq0.either)), refl)

pub loop-copy-preserved : goal.loop-copy-preserved
loop-copy-preserved c = (
  length-set _ _ _ ∙ c.loop-copy.invariant.0,
  copy_passed c.args.n c.args.away.now c.loop-copy.copy-index c.loop-copy-test.true c.loop-copy.invariant.1 (omega arith) (omega arith),
  mark_more c.args.n c.args.away.now c.loop-copy.copy-index c.loop-copy-test.true c.loop-copy.reach c.loop-copy.invariant.0 (omega arith) (omega arith) c.loop-copy.invariant.2,
)

pub returns : goal.returns
returns c = (
  c.loop-copy.invariant.1 ∙ copies_end c.args.n c.args.away.now c.loop-copy.copy-index c.loop-copy-test.false,
  marks_all c.args.n c.args.away.now c.loop-copy.reach c.requires c.loop-copy.invariant.0 (λ k lt.
      c.loop-copy.invariant.2 k lt ∙ ap (λ l. cond (among l (k + 1)) 0 1) (take_all c.loop-copy.copy-index c.args.away.now c.loop-copy-test.false)),
)

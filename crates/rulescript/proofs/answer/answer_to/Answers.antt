use Rattle.std.proofs.Common.{refl, subst}
use Rattle.choosing.specs.Numbers.{Choice}
use Rattle.rulescript.proofs.answer.answer_to.Goals as goal

pub returns-in_ok-chosen-in-Choose : goal.returns-in_ok-chosen-in-Choose
returns-in_ok-chosen-in-Choose g c = rw c.in-Choose.is (refl, subst (λ l. Choice (g.R.Rule.meaning c.args.rule.now) c.in-Choose.quorum l c.in_ok-chosen-in-Choose.chosen) c.as_slice.ensures.value c.in_ok-chosen-in-Choose.ensures)

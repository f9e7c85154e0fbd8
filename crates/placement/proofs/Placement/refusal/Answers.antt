use Rattle.std.proofs.Common.{vec_items, sym, ◌∙◌, arith}
use Rattle.places.proofs.Walks.{wrong_inside}
use Rattle.placement.proofs.Placement.refusal.Goals as goal
use Rattle.placement.specs.Placings.{few_places}

pub overflow_cast-result : goal.overflow_cast-result
overflow_cast-result g c =
    let p = c.args.self.now in
    let inside = wrong_inside (vec_items p.places) c.in_ok-copy.copy (sym p.tested ∙ c.in_ok-copy.was) in
    let few = few_places c.len.result (g.B.Bank.meaning p.inner) c.in_default.ensures in
    omega (arith, p.places.ok.0, c.len.ensures)

use Rattle.std.proofs.Common.{vec_items, ap, ◌∙◌}
use Rattle.placement.specs.Placing.{retold_answer}
use Rattle.placement.proofs.PlacementBank.fetch.Goals as goal
use Rattle.placement.specs.Placings.{fetched_below}

pub returns : goal.returns
returns g c =
    let p = c.args.self.now in
    let s = c.args.station in
    c.tell.ensures ∙ ap (retold_answer s) c.fetch.ensures ∙ fetched_below (vec_items p.places) (g.B.Bank.meaning p.inner) s c.in_ok-below.below c.in_ok-below.ensures c.args.entry

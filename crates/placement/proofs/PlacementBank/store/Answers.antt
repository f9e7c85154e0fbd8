use Rattle.std.proofs.Common.{vec_items, ap, ◌∙◌}
use Rattle.placement.specs.Placing.{placing, retold_answer}
use Rattle.placement.proofs.PlacementBank.store.Goals as goal
use Rattle.placement.specs.Placings.{stored_below}

pub returns : goal.returns
returns g c =
    let p = c.args.self.now in
    let places = vec_items p.places in
    let s = c.args.station in
    let done = stored_below places (g.B.Bank.meaning p.inner) s c.in_ok-below.below c.in_ok-below.ensures c.args.entry c.args.kept in
    record {
      answer = c.tell.ensures ∙ ap (retold_answer s) c.store.ensures.answer ∙ done.0;
      after = ap (placing places) c.store.ensures.after ∙ done.1;
    }

use Rattle.std.proofs.Common.{vec_items, ap, ◌∙◌}
use Rattle.closing.specs.Closing.{closing}
use Rattle.closing.proofs.ClosingBank.store.Goals as goal
use Rattle.closing.specs.Closings.{store_through, unbarred}

pub returns-clause-after : goal.returns-clause-after
returns-clause-after g c =
    let marks = vec_items c.args.self.now.marks in
    let b = g.B.Bank.meaning c.args.self.now.inner in
    let here = unbarred marks (closing marks b) c.args.station c.args.entry c.in_ok-check.ensures in
    ap (closing marks) c.store.ensures.after ∙ (store_through marks b c.args.station here.0 here.1 c.args.entry c.args.kept).1

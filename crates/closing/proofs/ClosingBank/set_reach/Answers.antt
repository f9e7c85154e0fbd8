use Rattle.std.proofs.Common.{vec_items, sym, ap, ◌∙◌, rules}
use Rattle.banks.proofs.Causes.{is_station_there}
use Rattle.closing.specs.Closing.{closing}
use Rattle.closing.proofs.ClosingBank.set_reach.Goals as goal
use Rattle.closing.specs.Closings.{reach_through}

pub returns-clause-after : goal.returns-clause-after
returns-clause-after g c =
    let marks = vec_items c.args.self.now.marks in
    let b = g.B.Bank.meaning c.args.self.now.inner in
    let here = is_station_there (closing marks b).n c.args.station (search rules) in
    ap (closing marks) c.set_reach.ensures.after ∙ (reach_through marks b c.args.station here (sym c.if-is_shut.ensures) c.args.reach).1

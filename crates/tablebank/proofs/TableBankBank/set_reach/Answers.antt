use Rattle.std.proofs.Common.{◌∙◌, vec_items, arith}
use Rattle.banks.proofs.Causes.{is_station_there, reach_done}
use Rattle.banks.specs.Limits.{between}
use Rattle.tablebank.specs.Table.{reaches, tabled}
use Rattle.tablebank.proofs.TableBankBank.set_reach.Goals as goal
use Rattle.tablebank.specs.Tables.{index_inside, never_shut, table_reached}

pub returns-clause-after : goal.returns-clause-after
returns-clause-after c =
    let b = c.args.self.now in
    let n = b.sizes.stations in
    let rows = vec_items b.rows in
    let s = c.args.station in
    let here = is_station_there n s c.in_ok-check_station.ensures in
    let done = reach_done (tabled b.sizes rows) s c.args.reach here (never_shut n (reaches rows) s (between 1 n s)) in
    table_reached b.sizes rows s here (omega (arith, b.rows.ok.0, b.stations, index_inside n s here)) c.index_mut.result.now c.index_mut.ensures.value c.args.reach ∙ done.1

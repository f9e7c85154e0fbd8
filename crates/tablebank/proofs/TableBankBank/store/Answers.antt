use Rattle.std.proofs.Common.{◌≡◌, ◌-◌, ◌<◌, true, length, sym, ap, ◌∙◌, vec_items, arith}
use Rattle.banks.proofs.Causes.{store_done, there}
use Rattle.banks.specs.Limits.{within}
use Rattle.tablebank.specs.Table.{tabled}
use Rattle.tablebank.proofs.TableBankBank.store.Goals as goal
use Rattle.tablebank.specs.Tables.{entry_here, index_inside, table_stored}

pub returns-clause-after : goal.returns-clause-after
returns-clause-after c =
    let b = c.args.self.now in
    let rows = vec_items b.rows in
    let table = tabled b.sizes rows in
    let s = c.args.station in
    let e = c.args.entry in
    let k = c.in_ok-kept.kept in
    let here = there table s e c.in_ok-check.ensures in
    let same : k.plain ≡ c.args.kept = rw c.in_ok-kept.ensures.ok_part at c.new.ensures in
    let kept : within c.args.kept ≡ true = ap within (sym same) ∙ k.fits in
    let done = store_done table s e c.args.kept c.in_ok-check.ensures kept in
    let row = c.index_mut.result.now in
    let is = c.index_mut.ensures.value in
    let in_rows : s - 1 < length rows = omega (arith, b.rows.ok.0, b.stations, index_inside b.sizes.stations s here.0) in
    let in_row = entry_here b.sizes rows s here.0 in_rows row is b.entries e here.1 in
    table_stored b.sizes rows s here.0 in_rows row is e k c.args.kept here.1 in_row same ∙ done.1

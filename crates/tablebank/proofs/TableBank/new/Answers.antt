use Rattle.std.proofs.Common.{vec_items, ap, ◌∙◌, arith}
use Rattle.banks.specs.Limits.{first_record}
use Rattle.tablebank.proofs.Makings.{rows_full, rows_made, sound_here, table_made}
use Rattle.tablebank.proofs.TableBank.new.Goals as goal

pub invariant_of-result : goal.invariant_of-result
invariant_of-result g c =
    let z = c.in-Ok.sizes in
    let rows = vec_items c.in_ok-rows.rows in
    let made = c.in_ok-rows.ensures in
    let long = rows_made z.stations z.entries c.first-first.result rows made.reaches in
    record {
      sound = sound_here g.V.Value.KIND c.args.stations c.args.entries z c.in-Ok.ensures;
      stations = omega (arith, c.in_ok-rows.rows.ok.0, long);
      entries = rows_full z.stations z.entries c.first-first.result rows long made.records;
    }

pub returns : goal.returns
returns g c =
    let made = c.in_ok-rows.ensures in
    table_made g.V.Value.KIND c.args.stations c.args.entries c.in-Ok.sizes c.in-Ok.ensures (g.V.Value.coded g.V.Value.empty) c.first-first.result (vec_items c.in_ok-rows.rows)
    (c.first-first.ensures ∙ ap (λ v. first_record (g.V.Value.coded v)) c.blank.ensures) made.reaches made.records

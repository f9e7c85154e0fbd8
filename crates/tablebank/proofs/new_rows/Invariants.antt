use Rattle.std.proofs.Common.{◌≡◌, true, replicate}
use Rattle.tablebank.specs.Table.{kept, reaches}
use Rattle.tablebank.proofs.new_rows.Given as goal

-- the rows that were made so far
abbrev pub invariant-loop : goal.invariant-loop
invariant-loop l = record {
  in_reach : reaches l.rows.items ≡ replicate l.counter true;
  records : kept l.rows.items ≡ replicate l.counter (replicate l.sizes.entries l.first);
}

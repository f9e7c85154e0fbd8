-- What a table bank means: what its table tells.
use Rattle.std.specs.Prelude.{vec_items}
use Rattle.banks.specs.Meaning.{Meaning}
use Rattle.tablebank.specs.Table.{tabled}
use Rattle.tablebank.specs.declared.TableBank.{TableBank}

abbrev pub meant : TableBank → Meaning
meant b = tabled b.sizes (vec_items b.rows)

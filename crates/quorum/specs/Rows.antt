-- Subtrees whose copies all are below 65, and rows of copies.
use Rattle.std.specs.Prelude.{ℕ, ◌-◌, ◌<◌, List}
use Rattle.families.specs.Trees.{last_copy}
use Rattle.std.specs.List.{range_with_len}
use Rattle.std.specs.declared.ops.Range.{Range}

pub record Fits (d h c : ℕ) : Type 0 where
  pub from_one : 0 < c
  pub to_last : last_copy d h c < 65

-- the copies of a row, by number
abbrev pub copies_in : Range ℕ → List ℕ
copies_in row = range_with_len row.start (row.end - row.start)

-- What a bank means that keeps its records in a table, a row for each station.
use Rattle.std.specs.Prelude.{◌≡◌, ℕ, ◌+◌, ◌-◌, ◌*◌, Bool, false, cond, ◌&&◌, ◌||◌, List, [], get_or, map, Some, None, Option, ◌==◌, slice_index_or, vec_items, vec_len, refl}
use Rattle.banks.specs.Limits.{allowed_sizes, between, first_record}
use Rattle.banks.specs.Making.{no_record, no_station_there}
use Rattle.banks.specs.Meaning.{Meaning, Station}
use Rattle.banks.specs.declared.fault.BankFault.{BankFault}
use Rattle.banks.specs.declared.fault.BankFault.TheVariants as fault
use Rattle.banks.specs.declared.record.Kept.{Kept}
use Rattle.banks.specs.declared.record.Record.{Record}
use Rattle.banks.specs.declared.record.Sizes.{Sizes}
use Rattle.tablebank.specs.declared.Row.{Row}
use Rattle.values.specs.Coding.{payloads}

-- the sizes of a bank that is empty, or whose sizes are allowed
abbrev pub sound_sizes : Sizes → Bool
sound_sizes z = allowed_sizes z || (z.kind == 0 && (z.stations == 0 && z.entries == 0))

-- an empty table bank is one whose making was refused
abbrev pub table_refusal : Sizes → Option BankFault
table_refusal z = cond (z.stations == 0) (Some fault.Sizes) None

-- a record that stands past the end of every row
abbrev pub past : Kept
past = record { plain = first_record (payloads 0 0 0 0); fits = refl }

-- where the record of a station and an entry stands when the rows are put one after the other
abbrev pub place : ℕ → ℕ → ℕ → ℕ
place m s e = (s - 1) * m + (e - 1)

-- which of the stations are in reach
abbrev pub reaches : List Row → List Bool
reaches rows = map (λ row. row.reach) rows

-- the records of each station
abbrev pub kept : List Row → List (List Kept)
kept rows = map (λ row. vec_items row.records) rows

abbrev pub stands : ℕ → List Bool → ℕ → Station
stands n reach s = cond (between 1 n s) (record { reach = slice_index_or reach (s - 1) false; shut = false }) no_station_there

abbrev pub kept_at : ℕ → ℕ → List (List Kept) → ℕ → ℕ → Record
kept_at n m table s e = cond (between 1 n s && between 1 m e) (get_or (get_or table (s - 1) []) (e - 1) past).plain no_record

abbrev pub tabled : Sizes → List Row → Meaning
tabled z rows = record {
  kind = z.kind;
  n = z.stations;
  m = z.entries;
  station = stands z.stations (reaches rows);
  cell = kept_at z.stations z.entries (kept rows);
}

-- the row has this many records
abbrev pub HasEntries : ℕ → Row → Type 0
HasEntries m row = vec_len row.records ≡ m

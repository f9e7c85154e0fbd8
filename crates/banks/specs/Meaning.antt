-- What a bank means, and the laws that its meaning keeps.
use Rattle.std.specs.Prelude.{◌≡◌, ℕ, Bool, true, false, ◌⊎◌}
use Rattle.banks.specs.Limits.{allowed, between, within}
use Rattle.banks.specs.declared.record.Record.{Record}

-- how a station stands: whether it is in reach, and whether it is shut, which is away for good
pub record Station : Type 0 where
  pub reach : Bool
  pub shut : Bool

-- A bank has a kind of value, the stations 1 to n and the entries 1 to m; each station stands somehow, and keeps a
-- record for each entry.
pub record Meaning : Type 0 where
  pub kind : ℕ
  pub n : ℕ
  pub m : ℕ
  pub station : ℕ → Station
  pub cell : ℕ → ℕ → Record

abbrev pub is_station : Meaning → ℕ → Bool
is_station b s = between 1 b.n s

abbrev pub is_entry : Meaning → ℕ → Bool
is_entry b e = between 1 b.m e

-- an empty bank has no kind, no stations and no entries
pub record Empty (b : Meaning) : Type 0 where
  pub no_kind : b.kind ≡ 0
  pub no_stations : b.n ≡ 0
  pub no_entries : b.m ≡ 0

pub record Lawful (b : Meaning) : Type 0 where
  -- the bank is empty, or its kind and sizes are in their limits
  pub sized : Empty b ⊎ (allowed b.kind b.n b.m ≡ true)
  -- every record is in its limits
  pub limits : (s e : ℕ) → is_station b s ≡ true → is_entry b e ≡ true → within (b.cell s e) ≡ true
  -- a shut station is not in reach
  pub closed : (s : ℕ) → (b.station s).shut ≡ true → (b.station s).reach ≡ false

-- What a bank means some of whose stations are shut.
use Rattle.std.specs.Prelude.{ℕ, ◌-◌, Bool, true, false, cond, not, ◌&&◌, List, [], ◌∷◌, length, Option, ◌==◌, nat_le, slice_index}
use Rattle.banks.specs.Calls.{first, no_entry, no_station}
use Rattle.banks.specs.Making.{layer_fault, settled}
use Rattle.banks.specs.Meaning.{Meaning, Station}
use Rattle.banks.specs.declared.fault.BankFault.{BankFault}
use Rattle.banks.specs.declared.fault.BankFault.TheVariants.{Away}

-- the mark of the station is not 0
abbrev pub is_shut : List ℕ → ℕ → Bool
is_shut marks s = nat_le 1 s && not (slice_index marks (s - 1) == 0)

abbrev pub shut_station : Station
shut_station = record { reach = false; shut = true }

-- the same bank, but that the marked stations are shut
abbrev pub closed : List ℕ → Meaning → Meaning
closed marks b = record {
  kind = b.kind;
  n = b.n;
  m = b.m;
  station = λ s. cond (is_shut marks s) shut_station (b.station s);
  cell = b.cell;
}

-- why there is no such bank
abbrev pub closing_fault : List ℕ → Meaning → Option BankFault
closing_fault marks b = layer_fault (length marks) b

abbrev pub closing : List ℕ → Meaning → Meaning
closing marks b = settled (closing_fault marks b) (closed marks b)

-- why a fetching or a storing of the bank with shut stations comes to nothing before the bank below is asked
abbrev pub barred : List ℕ → Meaning → ℕ → ℕ → Option BankFault
barred marks b s e = first (no_station b.n s ∷ (no_entry b.m e ∷ (record { met = is_shut marks s; told = Away s } ∷ [])))

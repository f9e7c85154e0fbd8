-- What a bank means whose stations are those of the bank below, in another order.
use Rattle.std.specs.Prelude.{ℕ, true, false, cond, List, [], ◌∷◌, length, Some, None, Ok, Err, Option, Result}
use Rattle.banks.specs.Calls.{Cause, first}
use Rattle.banks.specs.Limits.{between}
use Rattle.banks.specs.Making.{ill_fitting, no_record, no_station_there, nothing_below, settled}
use Rattle.banks.specs.Meaning.{Meaning}
use Rattle.banks.specs.declared.fault.BankFault.{BankFault}
use Rattle.banks.specs.declared.fault.BankFault.TheVariants.{Away, Length, NoEntry, NoStation, OutOfLimits, Place, Shut, Sizes, Word}
use Rattle.places.specs.Places.{first_wrong, place_of}

-- copy c stands at the station that the list names at c
abbrev pub placed : List ℕ → Meaning → Meaning
placed places b = record {
  kind = b.kind;
  n = b.n;
  m = b.m;
  station = λ c. cond (between 1 b.n c) (b.station (place_of places c)) no_station_there;
  cell = λ c e. cond (between 1 b.n c) (b.cell (place_of places c) e) no_record;
}

-- the place of a copy is no station, or that of an earlier copy
abbrev pub misplaced : Option ℕ → Cause
misplaced None = record { met = false; told = Place 0 }
misplaced (Some c) = record { met = true; told = Place c }

-- why there is no such bank
abbrev pub placing_fault : List ℕ → Meaning → Option BankFault
placing_fault places b = first (nothing_below b ∷ (ill_fitting (length places) b ∷ (misplaced (first_wrong places) ∷ [])))

abbrev pub placing : List ℕ → Meaning → Meaning
placing places b = settled (placing_fault places b) (placed places b)

-- a refusal of the bank below, told of the copy
abbrev pub retold : ℕ → BankFault → BankFault
retold c (NoStation s) = NoStation c
retold c (Away s) = Away c
retold c (Shut s) = Shut c
retold c (NoEntry e) = NoEntry e
retold c (OutOfLimits e) = OutOfLimits e
retold c Sizes = Sizes
retold c (Length n) = Length n
retold c (Place d) = Place d
retold c (Word k) = Word k

abbrev pub retold_answer : {A : Type 0} → ℕ → Result A BankFault → Result A BankFault
retold_answer c (Ok x) = Ok x
retold_answer c (Err f) = Err (retold c f)

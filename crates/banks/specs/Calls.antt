-- What the calls of a bank answer, and what they leave.
use Rattle.std.specs.Prelude.{ℕ, Bool, cond, not, ◌&&◌, List, [], ◌∷◌, Some, None, Ok, Err, Option, Result, ◌==◌}
use Rattle.banks.specs.Limits.{between, within}
use Rattle.banks.specs.Meaning.{Meaning, Station}
use Rattle.banks.specs.declared.fault.BankFault.{BankFault}
use Rattle.banks.specs.declared.fault.BankFault.TheVariants.{Away, NoEntry, NoStation, OutOfLimits, Shut}
use Rattle.banks.specs.declared.record.Record.{Record}
use Rattle.banks.specs.declared.record.Sizes.{Sizes}

-- a cause of a refusal: whether it is met, and the refusal then
pub record Cause : Type 0 where
  pub met : Bool
  pub told : BankFault

-- the refusal of the first cause that is met, in the order in which they are looked at
abbrev pub first : List Cause → Option BankFault
first [] = None
first (c ∷ cs) = cond c.met (Some c.told) (first cs)

-- the station is none of the n
abbrev pub no_station : ℕ → ℕ → Cause
no_station n s = record { met = not (between 1 n s); told = NoStation s }

-- the entry is none of the m
abbrev pub no_entry : ℕ → ℕ → Cause
no_entry m e = record { met = not (between 1 m e); told = NoEntry e }

abbrev pub away : Meaning → ℕ → Cause
away b s = record { met = not (b.station s).reach; told = Away s }

abbrev pub out_of_limits : ℕ → Record → Cause
out_of_limits e r = record { met = not (within r); told = OutOfLimits e }

abbrev pub shut : Meaning → ℕ → Cause
shut b s = record { met = (b.station s).shut; told = Shut s }

abbrev pub fetch_fault : Meaning → ℕ → ℕ → Option BankFault
fetch_fault b s e = first (no_station b.n s ∷ (no_entry b.m e ∷ (away b s ∷ [])))

abbrev pub store_fault : Meaning → ℕ → ℕ → Record → Option BankFault
store_fault b s e r = first (no_station b.n s ∷ (no_entry b.m e ∷ (away b s ∷ (out_of_limits e r ∷ []))))

abbrev pub reach_fault : Meaning → ℕ → Option BankFault
reach_fault b s = first (no_station b.n s ∷ (shut b s ∷ []))

-- the answer where there is no refusal, else the refusal
abbrev pub answered : {A : Type 0} → Option BankFault → A → Result A BankFault
answered None x = Ok x
answered (Some f) x = Err f

-- what is so afterwards where there is no refusal, else what was before
abbrev pub altered : Option BankFault → Meaning → Meaning → Meaning
altered None before after = after
altered (Some f) before after = before

abbrev pub sizes_of : Meaning → Sizes
sizes_of b = record { kind = b.kind; stations = b.n; entries = b.m }

abbrev pub asked_reach : Meaning → ℕ → Result Bool BankFault
asked_reach b s = answered (first (no_station b.n s ∷ [])) (b.station s).reach

abbrev pub fetched : Meaning → ℕ → ℕ → Result Record BankFault
fetched b s e = answered (fetch_fault b s e) (b.cell s e)

abbrev pub store_answer : Meaning → ℕ → ℕ → Record → Result (Unit {0}) BankFault
store_answer b s e r = answered (store_fault b s e r) tt

abbrev pub reach_answer : Meaning → ℕ → Result (Unit {0}) BankFault
reach_answer b s = answered (reach_fault b s) tt

-- the same bank, but for this record
abbrev pub with_cell : Meaning → ℕ → ℕ → Record → Meaning
with_cell b s e r = record {
  kind = b.kind;
  n = b.n;
  m = b.m;
  station = b.station;
  cell = λ t f. cond (t == s && f == e) r (b.cell t f);
}

abbrev pub stored : Meaning → ℕ → ℕ → Record → Meaning
stored b s e r = altered (store_fault b s e r) b (with_cell b s e r)

-- the same station, but for its reach
abbrev pub with_station_reach : Station → Bool → Station
with_station_reach x v = record { reach = v; shut = x.shut }

-- the same bank, but for the reach of this station
abbrev pub with_reach : Meaning → ℕ → Bool → Meaning
with_reach b s v = record {
  kind = b.kind;
  n = b.n;
  m = b.m;
  station = λ t. cond (t == s) (with_station_reach (b.station t) v) (b.station t);
  cell = b.cell;
}

abbrev pub reach_set : Meaning → ℕ → Bool → Meaning
reach_set b s v = altered (reach_fault b s) b (with_reach b s v)

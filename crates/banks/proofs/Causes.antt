-- Calls by their first cause.
use Rattle.std.proofs.Common.{◌≡◌, ℕ, Bool, true, false, [], ◌∷◌, Ok, Err, arith}
use Rattle.std.proofs.lemmas.Bool.Decides.{nat_tests}
use Rattle.banks.specs.Calls.{answered, fetch_fault, fetched, first, no_entry, no_station, reach_answer, reach_set, store_answer, stored, with_cell, with_reach}
use Rattle.banks.specs.Limits.{between, within}
use Rattle.banks.specs.Meaning.{Meaning}
use Rattle.banks.specs.declared.fault.BankFault.{BankFault}
use Rattle.banks.specs.declared.fault.BankFault.TheVariants.{OutOfLimits}
use Rattle.banks.specs.declared.record.Record.{Record}

module _ (b : Meaning) (s e : ℕ) where
  -- what a fetching that is not refused has found
  pub there : Ok tt ≡ answered {A = Unit {0}} (fetch_fault b s e) tt → (between 1 b.n s ≡ true) × (between 1 b.m e ≡ true) × ((b.station s).reach ≡ true)
  there h = grind (arith, nat_tests)

  pub fetch_done : (r : Record) → r ≡ b.cell s e → Ok tt ≡ answered {A = Unit {0}} (fetch_fault b s e) tt → Ok r ≡ fetched b s e
  fetch_done r is h = grind (arith, nat_tests)

  pub store_refused : (r : Record) (f : BankFault) → Err f ≡ answered {A = Unit {0}} (fetch_fault b s e) tt → (Err f ≡ store_answer b s e r) × (b ≡ stored b s e r)
  store_refused r f h = (grind (arith, nat_tests), grind (arith, nat_tests))

  pub store_beyond : (r : Record) → Ok tt ≡ answered {A = Unit {0}} (fetch_fault b s e) tt → within r ≡ false → (Err (OutOfLimits e) ≡ store_answer b s e r) × (b ≡ stored b s e r)
  store_beyond r h k = (grind (arith, nat_tests), grind (arith, nat_tests))

  pub store_done : (r : Record) → Ok tt ≡ answered {A = Unit {0}} (fetch_fault b s e) tt → within r ≡ true → (Ok tt ≡ store_answer b s e r) × (with_cell b s e r ≡ stored b s e r)
  store_done r h k = (grind (arith, nat_tests), grind (arith, nat_tests))

pub is_station_there : (n s : ℕ) → Ok tt ≡ answered {A = Unit {0}} (first (no_station n s ∷ [])) tt → between 1 n s ≡ true
is_station_there n s h = grind (arith, nat_tests)

pub is_entry_there : (m e : ℕ) → Ok tt ≡ answered {A = Unit {0}} (first (no_entry m e ∷ [])) tt → between 1 m e ≡ true
is_entry_there m e h = grind (arith, nat_tests)

pub reach_done : (b : Meaning) (s : ℕ) (v : Bool) → between 1 b.n s ≡ true → (b.station s).shut ≡ false → (Ok tt ≡ reach_answer b s) × (with_reach b s v ≡ reach_set b s v)
reach_done b s v h k = (grind (arith, nat_tests), grind (arith, nat_tests))

pub station_found : (n s x y : ℕ) → Ok y ≡ answered {A = ℕ} (first (no_station n s ∷ [])) x → (between 1 n s ≡ true) × (y ≡ x)
station_found n s x y h = (grind (arith, nat_tests), grind (arith, nat_tests))

module _ (b : Meaning) (s x : ℕ) (f : BankFault) (h : Err f ≡ answered {A = ℕ} (first (no_station b.n s ∷ [])) x) where
  pub store_nowhere : (e : ℕ) (r : Record) → (Err f ≡ store_answer b s e r) × (b ≡ stored b s e r)
  store_nowhere e r = (grind (arith, nat_tests), grind (arith, nat_tests))

  pub reach_nowhere : (v : Bool) → (Err f ≡ reach_answer b s) × (b ≡ reach_set b s v)
  reach_nowhere v = (grind (arith, nat_tests), grind (arith, nat_tests))

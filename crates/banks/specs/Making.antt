-- What making a bank answers.
use Rattle.std.specs.Prelude.{◌≡◌, ℕ, true, false, cond, not, ◌&&◌, [], ◌∷◌, Some, None, Ok, Err, Option, Result, ◌==◌}
use Rattle.values.specs.Coding.{payloads}
use Rattle.values.specs.declared.value.Payloads.{Payloads}
use Rattle.banks.specs.Calls.{Cause, first}
use Rattle.banks.specs.Limits.{allowed, between, first_record}
use Rattle.banks.specs.Meaning.{Meaning, Station}
use Rattle.banks.specs.declared.fault.BankFault.{BankFault}
use Rattle.banks.specs.declared.fault.BankFault.TheVariants as fault
use Rattle.banks.specs.declared.record.Record.{Record}
use Rattle.banks.specs.declared.record.Sizes.{Sizes}

-- what stands for a record where there is none
abbrev pub no_record : Record
no_record = record { number = 0; payloads = payloads 0 0 0 0 }

-- what stands for a station where there is none
abbrev pub no_station_there : Station
no_station_there = record { reach = false; shut = false }

abbrev pub empty_bank : Meaning
empty_bank = record { kind = 0; n = 0; m = 0; station = λ s. no_station_there; cell = λ s e. no_record }

-- all stations in reach, and every record at number 1 with these payloads
abbrev pub new_bank : ℕ → Payloads → ℕ → ℕ → Meaning
new_bank kind blank n m = record {
  kind = kind;
  n = n;
  m = m;
  station = λ s. cond (between 1 n s) (record { reach = true; shut = false }) no_station_there;
  cell = λ s e. cond (between 1 n s && between 1 m e) (first_record blank) no_record;
}

-- the sizes of a bank, or the refusal where they or the kind are not allowed
abbrev pub sizes_for : ℕ → ℕ → ℕ → Result Sizes BankFault
sizes_for kind n m = cond (allowed kind n m) (Ok (record { kind = kind; stations = n; entries = m })) (Err fault.Sizes)

-- a new bank where kind and sizes are allowed, else an empty one that tells the refusal
abbrev pub NewBank : ℕ → Payloads → ℕ → ℕ → Meaning → Option BankFault → Type 0
NewBank kind blank n m b refusal =
    cond (allowed kind n m)
    ((b ≡ new_bank kind blank n m) × (refusal ≡ None))
    ((b ≡ empty_bank) × (refusal ≡ Some fault.Sizes))

-- a refused making leaves an empty bank
abbrev pub settled : Option BankFault → Meaning → Meaning
settled None b = b
settled (Some f) b = empty_bank

-- the bank below a layer is empty
abbrev pub nothing_below : Meaning → Cause
nothing_below b = record { met = not (allowed b.kind b.n b.m); told = fault.Sizes }

-- a list that has not a member for each station of the bank below
abbrev pub ill_fitting : ℕ → Meaning → Cause
ill_fitting length b = record { met = not (length == b.n); told = fault.Length b.n }

-- why there is no layer with a list of this length over the bank below
abbrev pub layer_fault : ℕ → Meaning → Option BankFault
layer_fault length b = first (nothing_below b ∷ (ill_fitting length b ∷ []))

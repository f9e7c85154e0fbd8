-- What a making yields.
use Rattle.std.proofs.Common.{◌≡◌, ℕ, true, cond, Some, None, Option, sym, refl, subst, inl, arith}
use Rattle.values.specs.declared.value.Payloads.{Payloads}
use Rattle.banks.proofs.Ranges.{from_low, to_high}
use Rattle.banks.specs.Limits.{allowed, between}
use Rattle.banks.specs.Making.{NewBank, empty_bank, new_bank, settled}
use Rattle.banks.specs.Meaning.{Lawful, Meaning}
use Rattle.banks.specs.declared.fault.BankFault.{BankFault}
use Rattle.banks.specs.declared.fault.BankFault.TheVariants.{Sizes}

pub is_new : (kind : ℕ) (blank : Payloads) (n m : ℕ) (b : Meaning) (f : Option BankFault) → allowed kind n m ≡ true → b ≡ new_bank kind blank n m → f ≡ None → NewBank kind blank n m b f
is_new kind blank n m b f ok e q =
    subst (λ t. cond t ((b ≡ new_bank kind blank n m) × (f ≡ None)) ((b ≡ empty_bank) × (f ≡ Some Sizes))) (sym ok) (e, q)

pub empty_lawful : Lawful empty_bank
empty_lawful = record {
  sized = inl (record { no_kind = refl; no_stations = refl; no_entries = refl });
  limits = λ s e hs he. absurd (omega (arith, from_low 1 0 s hs, to_high 1 0 s hs));
  closed = λ s h. refl;
}

-- a bank that has a station was made
pub made_if : (o : Option BankFault) (b : Meaning) (s : ℕ) → between 1 (settled o b).n s ≡ true → o ≡ None
made_if None b s h = refl
made_if (Some f) b s h = absurd (omega (arith, from_low 1 0 s h, to_high 1 0 s h))

-- Coding a value as four payloads, and uncoding.
use Rattle.std.specs.Prelude.{◌≡◌, ℕ, ◌≤◌, List, ◌++◌, Ok, Err, codes, decimal, Result, ◌≢◌}
use Rattle.values.specs.declared.fault.ValueFault.{ValueFault}
use Rattle.values.specs.declared.fault.ValueFault.TheVariants.{NoValue}
use Rattle.values.specs.declared.value.Payloads.{Payloads}

abbrev pub payloads : ℕ → ℕ → ℕ → ℕ → Payloads
payloads a b c d = record { first = a; second = b; third = c; fourth = d }

-- four numbers with a space between
abbrev pub payloads_text : Payloads → List ℕ
payloads_text p = decimal p.first ++ (codes " " ++ (decimal p.second ++ (codes " " ++ (decimal p.third ++ (codes " " ++ decimal p.fourth)))))

-- a payload has 28 bits
abbrev pub Payload : ℕ → Type 0
Payload p = p ≤ 268435455

abbrev pub InLimits : Payloads → Type 0
InLimits p = Payload p.first × Payload p.second × Payload p.third × Payload p.fourth

-- what uncoding the payloads p answers: the value whose payloads they are, or, where they are those of no
-- value, the refusal
abbrev pub Uncodes : {V : Type 0} → (V → Payloads) → Payloads → Result V ValueFault → Type 0
Uncodes coded p (Ok v) = p ≡ coded v
Uncodes {V} coded p (Err f) = ((v : V) → p ≢ coded v) × (f ≡ NoValue)

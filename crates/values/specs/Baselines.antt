-- Baselines: which parts are out of range, the payloads, and the blank.
use Rattle.std.specs.Prelude.{◌≡◌, ℕ, [], ◌∷◌, ℤ, pos, Option, refl}
use Rattle.std.proofs.Common.{lit≤}
use Rattle.numbers.specs.declared.tenths.Tenths.{Tenths}
use Rattle.values.specs.Coding.{payloads}
use Rattle.values.specs.Making.{first_out}
use Rattle.parts.specs.Parts.{component_in, component_payload, day_in}
use Rattle.values.specs.declared.baseline.Baseline.{Baseline}
use Rattle.parts.specs.declared.component.Component.{Component}
use Rattle.values.specs.declared.fault.Part.{Part}
use Rattle.values.specs.declared.fault.Part.TheVariants.{First, Fourth, Second, Third}
use Rattle.values.specs.declared.value.Payloads.{Payloads}

-- the first part of a baseline that is out of range, where one is
abbrev pub baseline_out : ℤ → ℤ → ℤ → ℕ → Option Part
baseline_out x y z day = first_out ((component_in x, First) ∷ ((component_in y, Second) ∷ ((component_in z, Third) ∷ ((day_in day, Fourth) ∷ []))))

abbrev pub HasParts : Tenths → Tenths → Tenths → ℕ → Baseline → Type 0
HasParts x y z day b = (b.x.tenths ≡ x) × (b.y.tenths ≡ y) × (b.z.tenths ≡ z) × (b.day.number ≡ day)

abbrev pub coded_baseline : Baseline → Payloads
coded_baseline b = payloads (component_payload b.x.tenths.0) (component_payload b.y.tenths.0) (component_payload b.z.tenths.0) b.day.number

abbrev blank_component : Component
blank_component = record { tenths = record { 0 = pos 0 }; in_range = refl }

-- the blank: all zeros
abbrev pub blank_baseline : Baseline
blank_baseline = record { x = blank_component; y = blank_component; z = blank_component; day = record { number = 0; low = lit≤ tt; high = lit≤ tt } }

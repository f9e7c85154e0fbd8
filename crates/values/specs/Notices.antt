-- Notices: which parts are out of range, and the payloads.
use Rattle.std.specs.Prelude.{◌≡◌, ℕ, [], ◌∷◌, Option}
use Rattle.values.specs.Coding.{payloads}
use Rattle.values.specs.Making.{first_out}
use Rattle.parts.specs.Parts.{day_in, reason_in, serial_in}
use Rattle.values.specs.declared.fault.Part.{Part}
use Rattle.values.specs.declared.fault.Part.TheVariants.{Fourth, Second, Third}
use Rattle.values.specs.declared.notice.Notice.{Notice}
use Rattle.values.specs.declared.notice.Notice.TheVariants.{InService, NoneInService, Withdrawn}
use Rattle.values.specs.declared.value.Payloads.{Payloads}

-- the first part of a notice in service that is out of range, where one is
abbrev pub in_service_out : ℕ → ℕ → Option Part
in_service_out serial day = first_out ((serial_in serial, Second) ∷ ((day_in day, Third) ∷ []))

-- the same of a withdrawal
abbrev pub withdrawn_out : ℕ → ℕ → ℕ → Option Part
withdrawn_out serial day reason = first_out ((serial_in serial, Second) ∷ ((day_in day, Third) ∷ ((reason_in reason, Fourth) ∷ [])))

abbrev pub IsInService : ℕ → ℕ → Notice → Type 0
IsInService serial day NoneInService = ⊥
IsInService serial day (InService s d) = (s.number ≡ serial) × (d.number ≡ day)
IsInService serial day (Withdrawn s d r) = ⊥

abbrev pub IsWithdrawn : ℕ → ℕ → ℕ → Notice → Type 0
IsWithdrawn serial day reason NoneInService = ⊥
IsWithdrawn serial day reason (InService s d) = ⊥
IsWithdrawn serial day reason (Withdrawn s d r) = (s.number ≡ serial) × (d.number ≡ day) × (r.number ≡ reason)

abbrev pub coded_notice : Notice → Payloads
coded_notice NoneInService = payloads 0 0 0 0
coded_notice (InService s d) = payloads 1 s.number d.number 0
coded_notice (Withdrawn s d r) = payloads 2 s.number d.number r.number

-- Of given parts one value is made at most.
use Rattle.std.proofs.Common.{◌≡◌, ℕ, Some, None, Ok, Err, Option, Result, sym, ap, ◌∙◌}
use Rattle.numbers.specs.declared.tenths.Tenths.{Tenths}
use Rattle.values.specs.Baselines.{HasParts}
use Rattle.values.specs.Making.{Made}
use Rattle.values.specs.Notices.{IsInService, IsWithdrawn}
use Rattle.values.specs.declared.baseline.Baseline.{Baseline}
use Rattle.values.specs.declared.fault.Part.{Part}
use Rattle.values.specs.declared.fault.ValueFault.{ValueFault}
use Rattle.values.specs.declared.notice.Notice.{Notice}
use Rattle.values.specs.declared.notice.Notice.TheVariants.{InService, NoneInService, Withdrawn}
use Rattle.parts.proofs.Same.{bounded_same, component_same}

pub made_unique : {V : Type 0} (out : Option Part) (Has : V → Type 0) → ((v w : V) → Has v → Has w → v ≡ w) → (a b : Result V ValueFault) → Made out Has a → Made out Has b → a ≡ b
made_unique None Has one (Ok v) (Ok w) h k = ap Ok (one v w h k)
made_unique None Has one (Ok v) (Err f) h k = absurd k
made_unique None Has one (Err f) b h k = absurd h
made_unique (Some p) Has one a b h k = h ∙ sym k

pub parts_unique : (x y z : Tenths) (day : ℕ) (v w : Baseline) → HasParts x y z day v → HasParts x y z day w → v ≡ w
parts_unique x y z day v w h k = λ i.
    record {
      x = component_same v.x w.x (ap (λ (t : Tenths). t.0) (h.0 ∙ sym k.0)) i;
      y = component_same v.y w.y (ap (λ (t : Tenths). t.0) (h.1 ∙ sym k.1)) i;
      z = component_same v.z w.z (ap (λ (t : Tenths). t.0) (h.2 ∙ sym k.2)) i;
      day = bounded_same 0 99999 v.day w.day (h.3 ∙ sym k.3) i;
    }

pub in_service_unique : (serial day : ℕ) (v w : Notice) → IsInService serial day v → IsInService serial day w → v ≡ w
in_service_unique serial day NoneInService w h k = absurd h
in_service_unique serial day (InService s d) NoneInService h k = absurd k
in_service_unique serial day (InService s d) (InService t c) h k =
    λ i. InService (bounded_same 1 999999 s t (h.0 ∙ sym k.0) i) (bounded_same 0 99999 d c (h.1 ∙ sym k.1) i)
in_service_unique serial day (InService s d) (Withdrawn t c r) h k = absurd k
in_service_unique serial day (Withdrawn s d r) w h k = absurd h

pub withdrawn_unique : (serial day reason : ℕ) (v w : Notice) → IsWithdrawn serial day reason v → IsWithdrawn serial day reason w → v ≡ w
withdrawn_unique serial day reason NoneInService w h k = absurd h
withdrawn_unique serial day reason (InService s d) w h k = absurd h
withdrawn_unique serial day reason (Withdrawn s d r) NoneInService h k = absurd k
withdrawn_unique serial day reason (Withdrawn s d r) (InService t c) h k = absurd k
withdrawn_unique serial day reason (Withdrawn s d r) (Withdrawn t c q) h k =
    λ i. Withdrawn (bounded_same 1 999999 s t (h.0 ∙ sym k.0) i) (bounded_same 0 99999 d c (h.1 ∙ sym k.1) i) (bounded_same 1 9 r q (h.2 ∙ sym k.2) i)

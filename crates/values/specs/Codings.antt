-- No two values have the same payloads.
use Rattle.std.specs.Prelude.{◌≡◌, true, ℤ, Ok, Err, Result, refl}
use Rattle.std.proofs.Common.{ap, sym, arith}
use Rattle.std.proofs.lemmas.Int.{ints}
use Rattle.values.specs.Baselines.{coded_baseline}
use Rattle.values.specs.Coding.{Uncodes}
use Rattle.values.specs.Notices.{coded_notice}
use Rattle.parts.specs.Parts.{component_in, component_payload}
use Rattle.values.specs.declared.baseline.Baseline.{Baseline}
use Rattle.parts.specs.declared.component.Component.{Component}
use Rattle.values.specs.declared.fault.ValueFault.{ValueFault}
use Rattle.values.specs.declared.notice.Notice.{Notice}
use Rattle.values.specs.declared.notice.Notice.TheVariants.{InService, NoneInService, Withdrawn}
use Rattle.values.specs.declared.value.Payloads.{Payloads}
use Rattle.parts.proofs.Same.{bounded_same, component_same}

-- a coding that tells values apart gives back the value that was coded
pub gives_back_lem : {V : Type 0} (coded : V → Payloads) → ((v w : V) → coded v ≡ coded w → v ≡ w) → (v : V) (r : Result V ValueFault) → Uncodes coded (coded v) r → r ≡ Ok v
gives_back_lem coded apart v (Ok w) h = ap Ok (sym (apart v w h))
gives_back_lem coded apart v (Err f) h = absurd (h.0 v refl)

payload_apart : (y z : ℤ) → component_in y ≡ true → component_in z ≡ true → component_payload y ≡ component_payload z → y ≡ z
payload_apart y z p q e = grind (arith, ints)

-- the payloads of equal coding are equal, one by one
first_is : {p q : Payloads} → p ≡ q → p.first ≡ q.first
first_is e = ap (λ (p : Payloads). p.first) e

second_is : {p q : Payloads} → p ≡ q → p.second ≡ q.second
second_is e = ap (λ (p : Payloads). p.second) e

third_is : {p q : Payloads} → p ≡ q → p.third ≡ q.third
third_is e = ap (λ (p : Payloads). p.third) e

fourth_is : {p q : Payloads} → p ≡ q → p.fourth ≡ q.fourth
fourth_is e = ap (λ (p : Payloads). p.fourth) e

component_apart : (a b : Component) → component_payload a.tenths.0 ≡ component_payload b.tenths.0 → a ≡ b
component_apart a b e = component_same a b (payload_apart a.tenths.0 b.tenths.0 a.in_range b.in_range e)

pub baseline_apart : (v w : Baseline) → coded_baseline v ≡ coded_baseline w → v ≡ w
baseline_apart v w e = λ i.
    record {
      x = component_apart v.x w.x (first_is e) i;
      y = component_apart v.y w.y (second_is e) i;
      z = component_apart v.z w.z (third_is e) i;
      day = bounded_same 0 99999 v.day w.day (fourth_is e) i;
    }

pub notice_apart : (v w : Notice) → coded_notice v ≡ coded_notice w → v ≡ w
notice_apart NoneInService NoneInService e = refl
notice_apart NoneInService (InService s d) e = absurd (omega (arith, first_is e))
notice_apart NoneInService (Withdrawn s d r) e = absurd (omega (arith, first_is e))
notice_apart (InService s d) NoneInService e = absurd (omega (arith, first_is e))
notice_apart (InService s d) (InService t c) e =
    λ i. InService (bounded_same 1 999999 s t (second_is e) i) (bounded_same 0 99999 d c (third_is e) i)
notice_apart (InService s d) (Withdrawn t c r) e = absurd (omega (arith, first_is e))
notice_apart (Withdrawn s d r) NoneInService e = absurd (omega (arith, first_is e))
notice_apart (Withdrawn s d r) (InService t c) e = absurd (omega (arith, first_is e))
notice_apart (Withdrawn s d r) (Withdrawn t c q) e =
    λ i. Withdrawn (bounded_same 1 999999 s t (second_is e) i) (bounded_same 0 99999 d c (third_is e) i) (bounded_same 1 9 r q (fourth_is e) i)

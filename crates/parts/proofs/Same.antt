-- Parts with the same number are the same: the fact that a part is in range has one proof.
use Rattle.std.proofs.Common.{◌≡◌, ℕ, ◌≤◌, true}
use mathlib.Core.HLevel.{is_prop→PathP}
use denote.Struct.Props.{props}
use Rattle.parts.specs.Parts.{component_in}
use Rattle.parts.specs.declared.bounded.Bounded.{Bounded}
use Rattle.parts.specs.declared.component.Component.{Component}

pub component_same : (a b : Component) → a.tenths.0 ≡ b.tenths.0 → a ≡ b
component_same a b e = λ i.
    record {
      tenths = record { 0 = e i };
      in_range = is_prop→PathP (λ j. component_in (e j) ≡ true) (λ j. hlevel props) a.in_range b.in_range i;
    }

pub bounded_same : (low high : ℕ) (a b : Bounded low high) → a.number ≡ b.number → a ≡ b
bounded_same low high a b e = λ i.
    record {
      number = e i;
      low = is_prop→PathP (λ j. low ≤ e j) (λ j. hlevel props) a.low b.low i;
      high = is_prop→PathP (λ j. e j ≤ high) (λ j. hlevel props) a.high b.high i;
    }

-- The refusals of the value layer.
use Rattle.std.specs.Prelude.{ℕ, ◌&&◌, ◌==◌, nat_le}
use Rattle.faults.specs.Line.{Line}
use Rattle.faults.specs.declared.Layer.TheVariants.{Value}
use Rattle.values.specs.declared.fault.Part.{Part}
use Rattle.values.specs.declared.fault.Part.TheVariants.{First, Second, Third, Fourth}
use Rattle.values.specs.declared.fault.ValueFault.{ValueFault}
use Rattle.values.specs.declared.fault.ValueFault.TheVariants.{NoValue, OutOfRange}

-- the payload that a part is coded as, counted from 1
abbrev pub part_number : Part → ℕ
part_number First = 1
part_number Second = 2
part_number Third = 3
part_number Fourth = 4

-- each refusal with its number, its layer, its place, and the places that it may tell
abbrev pub value_line : ValueFault → Line
value_line (OutOfRange p) = record { number = 20; layer = Value; place = part_number p; places = λ k. nat_le 1 k && nat_le k 4 }
value_line NoValue = record { number = 12; layer = Value; place = 0; places = λ k. (k == 0) }

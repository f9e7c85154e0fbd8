-- The parts of values: their ranges, and the payload of a component.
use Rattle.std.specs.Prelude.{ℕ, Bool, ◌&&◌, ℤ, pos, negsuc, ◌+ℤ◌, int_le, nat_le, unsigned_abs}

-- a component in tenths of a nanotesla: from −9,999,999 to 9,999,999
abbrev pub component_in : ℤ → Bool
component_in z = int_le (negsuc 9999998) z && int_le z (pos 9999999)

-- a component's payload: the component plus 10,000,000
abbrev pub component_payload : ℤ → ℕ
component_payload z = unsigned_abs (z +ℤ pos 10000000)

-- a day count: at most 99,999
abbrev pub day_in : ℕ → Bool
day_in d = nat_le d 99999

-- the serial number of a notice: from 1 to 999,999
abbrev pub serial_in : ℕ → Bool
serial_in s = nat_le 1 s && nat_le s 999999

-- the reason of a withdrawal: from 1 to 9
abbrev pub reason_in : ℕ → Bool
reason_in r = nat_le 1 r && nat_le r 9

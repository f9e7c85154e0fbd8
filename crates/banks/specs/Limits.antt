-- The limits of records, kinds and sizes.
use Rattle.std.specs.Prelude.{ℕ, Bool, ◌&&◌, nat_le}
use Rattle.values.specs.declared.value.Payloads.{Payloads}
use Rattle.banks.specs.declared.record.Record.{Record}
use Rattle.banks.specs.declared.record.Sizes.{Sizes}

-- from the one to the other, both included
abbrev pub between : ℕ → ℕ → ℕ → Bool
between low high k = nat_le low k && nat_le k high

abbrev pub number_in : ℕ → Bool
number_in k = between 1 65535 k

-- a payload has 28 bits
abbrev pub payload_in : ℕ → Bool
payload_in p = nat_le p 268435455

abbrev pub payloads_in : Payloads → Bool
payloads_in p = payload_in p.first && (payload_in p.second && (payload_in p.third && payload_in p.fourth))

abbrev pub within : Record → Bool
within r = number_in r.number && payloads_in r.payloads

-- these payloads, at number 1
abbrev pub first_record : Payloads → Record
first_record p = record { number = 1; payloads = p }

abbrev pub allowed : ℕ → ℕ → ℕ → Bool
allowed kind n m = between 1 4095 kind && (between 1 64 n && between 1 48 m)

abbrev pub allowed_sizes : Sizes → Bool
allowed_sizes z = allowed z.kind z.stations z.entries

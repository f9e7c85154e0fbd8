-- What stands at the places of an image after the first, and which words can stand there.
use Rattle.std.specs.Prelude.{◌≡◌, ℕ, zero, suc, ◌+◌, ◌-◌, ◌/◌, ◌%◌, ◌<◌, ◌≤◌, Bool, true, false, not, ◌&&◌, List, length, ◌==◌, slice_index}
use Rattle.words.specs.Format.{block, kind_of, payload_of}
use Rattle.words.specs.declared.layout.Spot.{Spot}
use Rattle.words.specs.declared.layout.Spot.TheVariants.{Number, Payload, Station}
use Rattle.words.specs.declared.word.Kind.{Kind}
use Rattle.words.specs.declared.word.Kind.TheVariants.{First, FirstPayload, FourthPayload, SecondPayload, Station as StationKind, Number as NumberKind, ThirdPayload}

abbrev pub kind_number : Kind → ℕ
kind_number First = 1
kind_number StationKind = 2
kind_number NumberKind = 3
kind_number FirstPayload = 4
kind_number SecondPayload = 5
kind_number ThirdPayload = 6
kind_number FourthPayload = 7

abbrev pub spot_in_record : ℕ → ℕ → Spot
spot_in_record e zero = Number e
spot_in_record e (suc f) = Payload (f + 4)

abbrev pub spot_in_block : ℕ → ℕ → Spot
spot_in_block s zero = Station s
spot_in_block s (suc q) = spot_in_record (q / 5 + 1) (q % 5)

-- the place is counted from the second word
abbrev pub spot_at : ℕ → ℕ → Spot
spot_at m j = spot_in_block (j / block m + 1) (j % block m)

abbrev pub fits : Spot → ℕ → Bool
fits (Station s) w = kind_of w == 2 && payload_of w / 2 == s
fits (Number e) w = kind_of w == 3 && (payload_of w / 65536 == e && not (w % 65536 == 0))
fits (Payload k) w = kind_of w == k

abbrev pub right_at : ℕ → List ℕ → ℕ → Bool
right_at m ws k = fits (spot_at m (k - 1)) (slice_index ws k)

-- the words fit from the second to this place
abbrev pub AllFit : ℕ → List ℕ → ℕ → Type 0
AllFit m ws n = (k : ℕ) → 1 ≤ k → k < n → right_at m ws k ≡ true

abbrev pub IsFirstWrong : ℕ → List ℕ → ℕ → Type 0
IsFirstWrong m ws i = (1 ≤ i) × (i < length ws) × (right_at m ws i ≡ false) × AllFit m ws i

-- Lists of places: copy c stands at the station that the list names at c, counted from 1.
use Rattle.std.specs.Prelude.{◌≡◌, ℕ, ◌-◌, Bool, true, cond, not, ◌&&◌, List, [], ◌∷◌, length, take, Some, None, Option, slice_index}
use Rattle.families.specs.Copies.{among, is_copy}
use Rattle.std.specs.List.{range_with_len}

-- the station of a copy
abbrev pub place_of : List ℕ → ℕ → ℕ
place_of places c = slice_index places (c - 1)

-- the place of the copy is a station, and that of no copy before it; there are as many stations as copies
abbrev pub right : List ℕ → ℕ → Bool
right places c = is_copy (length places) (place_of places c) && not (among (take (c - 1) places) (place_of places c))

-- the first that fails the test
abbrev pub first_failing : (ℕ → Bool) → List ℕ → Option ℕ
first_failing test [] = None
first_failing test (c ∷ cs) = cond (test c) (first_failing test cs) (Some c)

-- the first copy whose place is not right, if one is not
abbrev pub first_wrong : List ℕ → Option ℕ
first_wrong places = first_failing (right places) (range_with_len 1 (length places))

-- the list names each station at most once: so, with as many copies as stations, just once
pub record Once (places : List ℕ) : Type 0 where
  pub stations : (c : ℕ) → is_copy (length places) c ≡ true → is_copy (length places) (place_of places c) ≡ true
  pub apart : (c d : ℕ) → is_copy (length places) c ≡ true → is_copy (length places) d ≡ true → place_of places c ≡ place_of places d → c ≡ d

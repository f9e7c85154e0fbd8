-- Sets of copies. Copies are numbered from 1, and a rule has the copies 1 to n.
use Rattle.std.specs.Prelude.{ℕ, ◌-◌, Bool, true, false, cond, not, ◌&&◌, ◌||◌, T, List, [], ◌∷◌, map, ◌==◌, nat_le, slice_index}
use Rattle.std.specs.List.{range_with_len}

-- which copies are in the set
abbrev pub Copies : Type 0
Copies = ℕ → Bool

abbrev pub is_copy : ℕ → ℕ → Bool
is_copy n c = nat_le 1 c && nat_le c n

abbrev pub everything : Copies
everything c = true

-- the copies that are not in the set
abbrev pub outside : ℕ → Copies → Copies
outside n s c = is_copy n c && not (s c)

-- every copy of s is in t
abbrev pub Within : ℕ → Copies → Copies → Type 0
Within n s t = (c : ℕ) → T (is_copy n c) → T (s c) → T (t c)

-- some copy is in both
abbrev pub Shared : ℕ → Copies → Copies → Type 0
Shared n s t = (c : ℕ) × T (is_copy n c) × T (s c) × T (t c)

-- the copies of a list
abbrev pub among : List ℕ → Copies
among [] c = false
among (x ∷ xs) c = x == c || among xs c

-- the set that n marks name: the copies whose mark is not 0
abbrev pub marked : ℕ → List ℕ → Copies
marked n marks c = is_copy n c && not (slice_index marks (c - 1) == 0)

-- the n marks of a set: 1 for its copies, and 0 for the rest
abbrev pub marks : ℕ → Copies → List ℕ
marks n s = map (λ c. cond (s c) 1 0) (range_with_len 1 n)

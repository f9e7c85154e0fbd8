-- The levels of a full tree of odd degree 2d + 1 and height h: families of majorities of levels, and their choices.
-- Levels are counted from 0 at the root.
use Rattle.std.specs.Prelude.{ℕ, zero, suc, ◌+◌, ◌-◌, ◌*◌, ◌/◌, Bool, true, false, List, [], ◌∷◌, length, Some, None, Option, nat_le}
use Rattle.std.specs.List.{range_with_len}
use Rattle.std.specs.Option.{option_map}
use Rattle.families.specs.Copies.{Copies, among, marked, marks}
use Rattle.families.specs.Meaning.{Meaning}
use Rattle.families.specs.Trees.{copies_of, count, gather, joined, with_copies}
use Rattle.families.specs.declared.Quorum.{Quorum}
use Rattle.families.specs.declared.Quorum.TheVariants.{Read, Write}

-- the first copy of a level is the first child of the first copy above
abbrev pub level_first : ℕ → ℕ → ℕ
level_first d zero = 1
level_first d (suc k) = (2 * d + 1) * (level_first d k - 1) + 2

abbrev pub level_size : ℕ → ℕ → ℕ
level_size d zero = 1
level_size d (suc k) = (2 * d + 1) * level_size d k

-- the copies of a level, by number
abbrev pub level : ℕ → ℕ → List ℕ
level d k = range_with_len (level_first d k) (level_size d k)

-- the least number that is more than half of n
abbrev pub more_than_half : ℕ → ℕ
more_than_half n = suc (n / 2)

-- the set has more than half of the row's copies
abbrev pub half_held : Copies → List ℕ → Bool
half_held s row = nat_le (more_than_half (length row)) (count s row)

-- for writing every level from the root down to the height h, for reading one of them
abbrev pub level_holds : Quorum → ℕ → ℕ → Copies → Bool
level_holds q d zero s = half_held s (level d zero)
level_holds q d (suc h) s = joined q (level_holds q d h s) (half_held s (level d (suc h)))

-- a copy in reach, alone
abbrev pub alone : Copies → ℕ → Option (List ℕ)
alone s c = elim (s c) [ true ↦ Some (c ∷ []) | false ↦ None ]

-- the lowest-numbered copies of the row in reach, as many as are more than half of the row
abbrev pub half_choice : Copies → List ℕ → Option (List ℕ)
half_choice s row = gather (alone s) (more_than_half (length row)) row

-- for writing both choices; for reading the first that is there
abbrev pub choice_joined : Quorum → Option (List ℕ) → Option (List ℕ) → Option (List ℕ)
choice_joined Write None y = None
choice_joined Write (Some l) y = with_copies l y
choice_joined Read None y = y
choice_joined Read (Some l) y = Some l

abbrev pub level_choice : Quorum → ℕ → ℕ → Copies → Option (List ℕ)
level_choice q d zero s = half_choice s (level d zero)
level_choice q d (suc h) s = choice_joined q (level_choice q d h s) (half_choice s (level d (suc h)))

-- the rule of the levels
abbrev pub levels_rule : ℕ → ℕ → Meaning
levels_rule d h = record {
  n = copies_of d h;
  holds = λ q s. level_holds q d h s;
  choice = λ q reach. option_map (λ l. marks (copies_of d h) (among l)) (level_choice q d h (marked (copies_of d h) reach));
}

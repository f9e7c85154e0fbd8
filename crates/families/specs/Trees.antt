-- A full tree of odd degree 2d + 1 and height h: its copies, its two families of quorums, and its choices.
use Rattle.std.specs.Prelude.{ℕ, zero, suc, ◌+◌, ◌-◌, ◌*◌, Bool, true, false, not, ◌&&◌, ◌||◌, List, [], ◌∷◌, ◌++◌, Some, None, filter, Option, nat_le}
use Rattle.std.specs.List.{range_with_len}
use Rattle.std.specs.Option.{option_map}
use Rattle.families.specs.Copies.{Copies, among, marked, marks}
use Rattle.families.specs.Meaning.{Meaning}
use Rattle.families.specs.declared.Quorum.{Quorum}
use Rattle.families.specs.declared.Quorum.TheVariants.{Read, Write}

-- the children of the copy c, by number
abbrev pub children : ℕ → ℕ → List ℕ
children d c = range_with_len ((2 * d + 1) * (c - 1) + 2) (2 * d + 1)

-- the last copy of the subtree of height h below the copy c: on each level the last child of the last copy
abbrev pub last_copy : ℕ → ℕ → ℕ → ℕ
last_copy d zero c = c
last_copy d (suc h) c = last_copy d h ((2 * d + 1) * c + 1)

-- how many copies the tree has: copies are numbered without a gap, from 1 at the root
abbrev pub copies_of : ℕ → ℕ → ℕ
copies_of d h = last_copy d h 1

abbrev pub one_if : Bool → ℕ → ℕ
one_if true n = suc n
one_if false n = n

-- how many of the row pass the test
abbrev pub count : (ℕ → Bool) → List ℕ → ℕ
count p [] = 0
count p (c ∷ row) = one_if (p c) (count p row)

-- at least d + 1 of the children of c pass the test
abbrev pub most : ℕ → (ℕ → Bool) → ℕ → Bool
most d p c = nat_le (suc d) (count p (children d c))

-- for writing the root and most children's subtrees, for reading the root or most of them
abbrev pub joined : Quorum → Bool → Bool → Bool
joined Write root rest = root && rest
joined Read root rest = root || rest

-- the set holds a quorum of the subtree of height h below c
abbrev pub holds : Quorum → ℕ → ℕ → Copies → ℕ → Bool
holds q d zero s c = s c
holds q d (suc h) s c = joined q (s c) (most d (holds q d h s) c)

-- copies added to a choice, where there is one
abbrev pub with_copies : List ℕ → Option (List ℕ) → Option (List ℕ)
with_copies l None = None
with_copies l (Some m) = Some (l ++ m)

-- the choices of the first k of the row that have one, put together; none where fewer have one
abbrev pub gather : (ℕ → Option (List ℕ)) → ℕ → List ℕ → Option (List ℕ)
gather f zero row = Some []
gather f (suc k) [] = None
gather f (suc k) (c ∷ row) = elim (f c) [ None ↦ gather f (suc k) row | Some l ↦ with_copies l (gather f k row) ]

-- the children as reading looks at them: those in reach, then those away
abbrev pub near_first : Copies → List ℕ → List ℕ
near_first s row = filter s row ++ filter (λ c. not (s c)) row

-- A copy's choice. A leaf is its own choice. For writing a copy in reach takes itself and the choices of the
-- first d + 1 children that have one; for reading it takes itself alone, and where it is away the choices of
-- d + 1 children, those in reach first.
abbrev pub choice : Quorum → ℕ → ℕ → Copies → ℕ → Option (List ℕ)
choice q d zero s c = elim (s c) [ true ↦ Some (c ∷ []) | false ↦ None ]
choice Write d (suc h) s c =
    elim (s c) [ true ↦ with_copies (c ∷ []) (gather (choice Write d h s) (suc d) (children d c)) | false ↦ None ]
choice Read d (suc h) s c =
    elim (s c) [ true ↦ Some (c ∷ []) | false ↦ gather (choice Read d h s) (suc d) (near_first s (children d c)) ]

-- the rule of the tree
abbrev pub tree_rule : ℕ → ℕ → Meaning
tree_rule d h = record {
  n = copies_of d h;
  holds = λ q s. holds q d h s 1;
  choice = λ q reach. option_map (λ l. marks (copies_of d h) (among l)) (choice q d h (marked (copies_of d h) reach) 1);
}

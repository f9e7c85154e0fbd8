-- What a CopySet holds.
use Rattle.std.specs.Prelude.{◌≡◌, ℕ, false, ◌||◌, List, Some, None, Option, slice_index_or}
use Rattle.families.specs.Copies.{Copies, among}
use Rattle.families.specs.Levels.{choice_joined}
use Rattle.families.specs.declared.Quorum.{Quorum}
use Rattle.quorum.specs.declared.copy_set.CopySet.{CopySet}

abbrev pub members : CopySet → Copies
members s c = slice_index_or s.marks c false

-- the same copies are in both
abbrev pub Same : Copies → Copies → Type 0
Same s t = (c : ℕ) → s c ≡ t c

-- a set is there where the choice is, and has the copies of the choice
abbrev pub Is : Option CopySet → Option (List ℕ) → Type 0
Is None None = Unit {0}
Is None (Some l) = ⊥
Is (Some s) None = ⊥
Is (Some s) (Some l) = Same (members s) (among l)

-- the copies of both sets, where both are there
abbrev pub Joins : Option CopySet → Option CopySet → Option CopySet → Type 0
Joins (Some s) (Some t) (Some r) = (c : ℕ) → members r c ≡ (members s c || members t c)
Joins (Some s) (Some t) None = ⊥
Joins (Some s) None r = r ≡ None
Joins None y r = r ≡ None

-- of whatever choices the two sets are, the last is the two joined
abbrev pub Joined : Quorum → Option CopySet → Option CopySet → Option CopySet → Type 0
Joined q one other r = (x y : Option (List ℕ)) → Is one x → Is other y → Is r (choice_joined q x y)

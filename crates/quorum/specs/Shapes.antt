-- The trees that are allowed.
use Rattle.std.specs.Prelude.{ℕ, Bool, ◌&&◌, ◌||◌, ◌==◌, nat_le}

-- degree 3 with heights 0 to 3, degrees 5 and 7 with heights 0 to 2, degree 9 with heights 0 and 1
abbrev pub allowed_tree : ℕ → ℕ → Bool
allowed_tree degree height =
    (degree == 3 && nat_le height 3) || ((degree == 5 && nat_le height 2) || ((degree == 7 && nat_le height 2) || (degree == 9 && nat_le height 1)))

-- Subtrees whose copies all have marks.
use Rattle.std.proofs.Common.{◌≡◌, ℕ, zero, suc, ◌+◌, ◌-◌, ◌*◌, ◌<◌, ◌≤◌, refl, mul-suc, arith}
use Rattle.std.specs.List.{range_with_len, AllByRecursion}
use Rattle.families.proofs.TreeFamilies.{at_most_last, last_grows}
use Rattle.families.specs.Trees.{children, last_copy}
use Rattle.quorum.specs.Rows.{Fits}

module _ (d h c : ℕ) (above : 0 < h) (f : Fits d h c) where
  last_child_to_last : last_copy d (h - 1) ((2 * d + 1) * c + 1) < 65
  last_child_to_last = let e : h ≡ suc (h - 1) = omega arith in rw e at f.to_last

  pub last_child_marked : (2 * d + 1) * c + 1 < 65
  last_child_marked = omega (arith, at_most_last d (h - 1) ((2 * d + 1) * c + 1), last_child_to_last)

  -- the children end with the last child
  pub children_end : (2 * d + 1) * (c - 1) + (2 * d + 1) ≡ (2 * d + 1) * c
  children_end = let p : 0 < c = f.from_one in let e : suc (c - 1) ≡ c = omega arith in rw (← mul-suc (2 * d + 1) (c - 1), e) refl

  run_fits : (a n : ℕ) → 0 < a → a + n ≤ (2 * d + 1) * c + 2 → AllByRecursion (Fits d (h - 1)) (range_with_len a n)
  run_fits a zero p l = tt
  run_fits a (suc n) p l = (
    record { from_one = p; to_last = omega (arith, last_child_to_last, last_grows d (h - 1) a ((2 * d + 1) * c + 1) (omega arith)) },
    run_fits (a + 1) n (omega arith) (omega arith),
  )

  pub children_fit : AllByRecursion (Fits d (h - 1)) (children d c)
  children_fit = run_fits ((2 * d + 1) * (c - 1) + 2) (2 * d + 1) (omega arith) (omega (arith, children_end))

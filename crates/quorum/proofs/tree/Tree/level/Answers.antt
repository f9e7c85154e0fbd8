use Rattle.std.proofs.Common.{◌≡◌, ℕ, ◌+◌, ◌-◌, ◌*◌, ◌/◌, ◌≤◌, ap, ◌∙◌, mul_comm, add-one, arith}
use Rattle.families.proofs.LevelLaws.{level_bounds}
use Rattle.families.specs.Levels.{level_first, level_size}
use Rattle.quorum.specs.Shaping.{few_copies, odd_degree}
use Rattle.quorum.proofs.tree.Tree.level.Goals as goal

-- the next level, in the code's words
module _ (b d k f s : ℕ) (odd : b ≡ 2 * d + 1) (first : f ≡ level_first d k) (size : s ≡ level_size d k) where
  first_below : b * (f - 1) + 2 ≡ level_first d (k + 1)
  first_below = rw (add-one k, odd) (ap (λ n. (2 * d + 1) * (n - 1) + 2) first)

  size_below : s * b ≡ level_size d (k + 1)
  size_below = rw (add-one k, odd) (mul_comm s (2 * d + 1) ∙ ap (λ n. (2 * d + 1) * n) size)

pub loop-level-preserved : goal.loop-level-preserved
loop-level-preserved c =
    let tree = c.args.self.now in
    let odd = odd_degree tree.degree tree.height tree.allowed in
    let here = c.loop-level.invariant in
    (first_below _ _ _ _ _ odd here.0 here.1, size_below _ _ _ _ _ odd here.0 here.1)

-- the next level ends with the tree or before it
below_fits : (c : goal.In-loop-level) → c.args.self.now.degree * (c.loop-level.first - 1) + 2 + c.loop-level.size * c.args.self.now.degree ≤ 58
below_fits c =
    let tree = c.args.self.now in
    let next = loop-level-preserved c in
    omega (arith, next.0, next.1, level_bounds (tree.degree / 2) (c.loop-level._level + 1) tree.height (omega (arith, c.loop-level-test.true)), few_copies tree.degree tree.height tree.allowed)

pub overflow_mul-first : goal.overflow_mul-first
overflow_mul-first c = omega (arith, below_fits c)

pub overflow_add-first : goal.overflow_add-first
overflow_add-first c = omega (arith, below_fits c)

pub overflow_mul-size : goal.overflow_mul-size
overflow_mul-size c = omega (arith, below_fits c)

pub overflow_add-result : goal.overflow_add-result
overflow_add-result c =
    let tree = c.args.self.now in
    omega (arith, c.loop-level.invariant.0, c.loop-level.invariant.1, level_bounds (tree.degree / 2) c.loop-level._level tree.height (omega (arith, c.loop-level-test.false, c.loop-level.auto._level-end)), few_copies tree.degree tree.height tree.allowed)

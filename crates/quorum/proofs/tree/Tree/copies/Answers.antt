use Rattle.std.proofs.Common.{◌≡◌, ◌+◌, ◌-◌, ◌*◌, ◌/◌, ◌≤◌, arith}
use Rattle.families.specs.Trees.{copies_of, last_copy}
use Rattle.quorum.specs.Shaping.{few_copies, level_below, level_passed, odd_degree}
use Rattle.quorum.proofs.tree.Tree.copies.Goals as goal

passed : (c : goal.In-loop-level) → copies_of (c.args.self.now.degree / 2) c.args.self.now.height ≡ last_copy (c.args.self.now.degree / 2) (c.args.self.now.height - (c.loop-level._level + 1)) (c.loop-level.last * c.args.self.now.degree + 1)
passed c =
    let tree = c.args.self.now in
    level_passed (copies_of (tree.degree / 2) tree.height) (tree.degree / 2) tree.height c.loop-level._level c.loop-level.last tree.degree
    (odd_degree tree.degree tree.height tree.allowed) c.loop-level-test.true c.loop-level.invariant

small : (c : goal.In-loop-level) → c.loop-level.last * c.args.self.now.degree + 1 ≤ 57
small c =
    let tree = c.args.self.now in
    let below : c.loop-level.last * tree.degree + 1 ≤ copies_of (tree.degree / 2) tree.height =
    level_below (copies_of (tree.degree / 2) tree.height) (tree.degree / 2) (tree.height - (c.loop-level._level + 1)) (c.loop-level.last * tree.degree + 1) (passed c) in
    omega (arith, few_copies tree.degree tree.height tree.allowed)

pub overflow_mul-last : goal.overflow_mul-last
overflow_mul-last c = omega (arith, small c)

pub overflow_add-last : goal.overflow_add-last
overflow_add-last c = omega (arith, small c)

pub loop-level-preserved : goal.loop-level-preserved
loop-level-preserved c = passed c

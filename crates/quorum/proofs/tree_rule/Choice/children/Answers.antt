use Rattle.std.proofs.Common.{◌+◌, ◌-◌, ◌*◌, ◌≤◌, arith}
use Rattle.quorum.proofs.Fitting.{children_end, last_child_marked}
use Rattle.quorum.proofs.tree_rule.Choice.children.Goals as goal

few : (c : goal.Start) → (2 * c.args.self.now.half + 1) * (c.args.self.now.copy - 1) + 2 + (2 * c.args.self.now.half + 1) ≤ 65
few c =
    let x = c.args.self.now in
    omega (arith, children_end x.half x.height x.copy c.requires x.fits, last_child_marked x.half x.height x.copy c.requires x.fits)

pub overflow_mul-first : goal.overflow_mul-first
overflow_mul-first c = omega (arith, few c)

pub overflow_add-first : goal.overflow_add-first
overflow_add-first c = omega (arith, few c)

pub overflow_add-result : goal.overflow_add-result
overflow_add-result c = omega (arith, few c)

use Rattle.std.proofs.Common.{◌/◌, refl}
use Rattle.families.specs.Trees.{choice, tree_rule}
use Rattle.quorum.specs.RuleLaws.{tree_keeps}
use Rattle.quorum.proofs.Given.{picked_chooses}
use Rattle.quorum.proofs.tree_rule.TreeRuleRule.choose.Goals as goal

pub returns : goal.returns
returns c =
    let tree = c.args.self.now.tree in
    let d = tree.degree / 2 in
    let h = tree.height in
    picked_chooses (tree_rule d h) (tree_keeps tree) c.args.quorum (λ s. choice c.args.quorum d h s 1)
    c.args.reach.now c.args.choice.now c.give.new.choice c.marked_set.result c.choose_from_root-set.result c.give.result (λ l. refl)
    (rw c.copies.ensures.0 at c.in_ok-check_lengths.ensures) c.marked_set.ensures c.choose_from_root-set.ensures c.give.ensures

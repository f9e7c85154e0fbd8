use Rattle.std.proofs.Common.{◌/◌, refl}
use Rattle.families.specs.Levels.{level_choice, levels_rule}
use Rattle.quorum.proofs.Given.{picked_chooses}
use Rattle.quorum.specs.RuleLaws.{levels_keep}
use Rattle.quorum.proofs.level_rule.LevelRuleRule.choose.Goals as goal

pub returns : goal.returns
returns c =
    let tree = c.args.self.now.tree in
    let d = tree.degree / 2 in
    let h = tree.height in
    picked_chooses (levels_rule d h) (levels_keep tree) c.args.quorum (level_choice c.args.quorum d h)
    c.args.reach.now c.args.choice.now c.give.new.choice c.marked_set.result c.choose_levels-set.result c.give.result (λ l. refl)
    (rw c.copies.ensures.0 at c.in_ok-check_lengths.ensures) c.marked_set.ensures c.choose_levels-set.ensures c.give.ensures

use Rattle.std.proofs.Common.{◌/◌}
use Rattle.families.specs.Levels.{level_choice}
use Rattle.quorum.specs.Sets.{Is, members}
use Rattle.quorum.proofs.level_rule.LevelRule.choose_levels.Given as goal

abbrev pub invariant-loop-above : goal.invariant-loop-above
invariant-loop-above l = Is l.chosen (level_choice l.quorum (l.self.tree.degree / 2) l.above (members l.reach))

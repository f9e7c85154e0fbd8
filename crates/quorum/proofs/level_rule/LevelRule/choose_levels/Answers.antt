use Rattle.std.proofs.Common.{add-one}
use Rattle.quorum.proofs.level_rule.LevelRule.choose_levels.Goals as goal

pub loop-above-preserved : goal.loop-above-preserved
loop-above-preserved c =
    rw add-one (c.join-chosen.ensures _ _ c.loop-above.invariant (rw (c.level-in-loop-above.ensures, add-one) at c.choose_half.ensures))

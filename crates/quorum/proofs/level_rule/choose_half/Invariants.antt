use Rattle.families.specs.Levels.{alone, half_choice}
use Rattle.quorum.specs.Rows.{copies_in}
use Rattle.quorum.specs.Sets.{members}
use Rattle.quorum.proofs.Gathering.{Gathered}
use Rattle.quorum.proofs.level_rule.choose_half.Given as goal

abbrev pub invariant-loop-copy : goal.invariant-loop-copy
invariant-loop-copy l =
    Gathered (alone (members l.reach)) (half_choice (members l.reach) (copies_in l.fn.row)) l.chosen l.wanted (copies_in l.copy-iterator)

use Rattle.std.proofs.Common.{◌+◌, drop}
use Rattle.families.specs.Votes.{votes_choice}
use Rattle.quorum.specs.Sets.{members}
use Rattle.quorum.proofs.VoteCounting.{Counted}
use Rattle.quorum.proofs.votes_rule.choose_by_votes.Given as goal

abbrev pub invariant-loop-i : goal.invariant-loop-i
invariant-loop-i l =
    Counted (members l.reach) (votes_choice l.threshold 1 l.votes (members l.reach)) l.chosen l.wanted (l.i + 1) (drop l.i l.votes)

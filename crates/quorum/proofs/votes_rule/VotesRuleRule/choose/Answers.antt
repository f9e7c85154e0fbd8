use Rattle.std.proofs.Common.{refl}
use Rattle.families.specs.Votes.{threshold, votes_choice, votes_rule}
use Rattle.quorum.specs.RuleLaws.{votes_keep}
use Rattle.quorum.specs.VoteLists.{votes_in}
use Rattle.quorum.proofs.Given.{picked_chooses}
use Rattle.quorum.proofs.votes_rule.VotesRuleRule.choose.Goals as goal

pub returns : goal.returns
returns c =
    let rule = c.args.self.now in
    let votes = votes_in rule.votes in
    picked_chooses (votes_rule votes rule.threshold) (votes_keep rule) c.args.quorum (votes_choice (threshold c.args.quorum votes rule.threshold) 1 votes)
    c.args.reach.now c.args.choice.now c.give.new.choice c.marked_set.result c.choose_by_votes-set.result c.give.result (λ l. refl)
    (rw c.count.ensures at c.in_ok-check_lengths.ensures) c.marked_set.ensures (rw (c.as_slice.ensures.votes, c.threshold_for-threshold.ensures) at c.choose_by_votes-set.ensures) c.give.ensures

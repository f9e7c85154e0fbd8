use Rattle.std.proofs.Common.{rules}
use Rattle.quorum.proofs.votes_rule.VotesRule.new.Goals as goal

pub returns-in_err-votes : goal.returns-in_err-votes
returns-in_err-votes c = let h = c.in_err-votes.ensures c.args.threshold in search rules

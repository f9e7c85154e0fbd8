use Rattle.quorum.proofs.Gathering.{joined_write}
use Rattle.quorum.proofs.level_rule.join.Goals as goal

pub returns-in-Write : goal.returns-in-Write
returns-in-Write c = λ x y i k. rw c.in-Write.is (joined_write c.args.one c.args.other c.both.result x y c.both.ensures i k)

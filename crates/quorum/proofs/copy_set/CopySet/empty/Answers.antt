use Rattle.quorum.proofs.Marking.{none_marked}
use Rattle.quorum.proofs.copy_set.CopySet.empty.Goals as goal

pub returns : goal.returns
returns c k = none_marked 65 k

use Rattle.std.proofs.Common.{refl}
use Rattle.tablebank.proofs.TableBank.check.Goals as goal
use Rattle.tablebank.specs.Table.{tabled}

pub returns : goal.returns
returns c = c.check_call.ensures (tabled c.args.self.now.sizes c.args.self.now.rows.items) refl c.in_reach-reach.ensures

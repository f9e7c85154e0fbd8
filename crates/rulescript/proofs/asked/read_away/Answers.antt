use Rattle.std.proofs.Common.{◌<◌, length, rules}
use Rattle.rulescript.proofs.Away.{away_made}
use Rattle.rulescript.proofs.asked.read_away.Goals as goal

pub returns-in-away : goal.returns-in-away
returns-in-away c =
    let some : 0 < length c.in-Some.rest.now = search rules in
    away_made c.args.words.now _ _ c.in-Some.ensures.cases.0 c.in-away.is some c.read_list.result c.read_list.ensures

use Rattle.std.proofs.Common.{vec_items, rules}
use Rattle.banks.proofs.Causes.{is_station_there}
use Rattle.words.specs.Format.{imaged}
use Rattle.imagebank.proofs.ImageBankBank.set_reach.Goals as goal
use Rattle.imagebank.proofs.Writes.{reached}

pub invariant_of-self : goal.invariant_of-self
invariant_of-self c =
    let b = c.args.self.now in
    let ws = vec_items b.words in
    let here = is_station_there (imaged ws).n c.args.station (search rules) in
    record { sound = (reached ws b.sound c.args.station _ c.args.reach here (search rules) _ c.station_word.ensures).0; told = b.told }

pub returns-clause-after : goal.returns-clause-after
returns-clause-after c =
    let b = c.args.self.now in
    let ws = vec_items b.words in
    let here = is_station_there (imaged ws).n c.args.station (search rules) in
    (reached ws b.sound c.args.station _ c.args.reach here (search rules) _ c.station_word.ensures).1

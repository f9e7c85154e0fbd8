use Rattle.std.proofs.Common.{refl}
use Rattle.families.proofs.LevelLaws.{levels_lawful}
use Rattle.families.proofs.TreeLaws.{tree_lawful}
use Rattle.families.proofs.VoteLaws.{votes_lawful}
use Rattle.families.proofs.lawful_rules.Goals as goal

pub returns : goal.returns
returns c = record { tree = tree_lawful; levels = levels_lawful; votes = votes_lawful; count = refl }

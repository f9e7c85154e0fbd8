-- The laws, of every rule that exists.
use Rattle.std.specs.Prelude.{◌/◌}
use Rattle.std.proofs.Common.{arith}
use Rattle.families.proofs.LevelLaws.{levels_lawful}
use Rattle.families.proofs.TreeLaws.{tree_lawful}
use Rattle.families.proofs.VoteLaws.{votes_lawful}
use Rattle.families.specs.Levels.{levels_rule}
use Rattle.families.specs.Meaning.{Lawful}
use Rattle.families.specs.Trees.{tree_rule}
use Rattle.families.specs.Votes.{votes_rule}
use Rattle.quorum.specs.declared.tree.Tree.{Tree}
use Rattle.quorum.specs.declared.votes_rule.VotesRule.{VotesRule}
use Rattle.quorum.specs.Shaping.{few_copies}
use Rattle.quorum.specs.VoteLists.{votes_in}

pub tree_keeps : (t : Tree) → Lawful (tree_rule (t.degree / 2) t.height)
tree_keeps t = tree_lawful (t.degree / 2) t.height (omega (arith, few_copies t.degree t.height t.allowed))

pub levels_keep : (t : Tree) → Lawful (levels_rule (t.degree / 2) t.height)
levels_keep t = levels_lawful (t.degree / 2) t.height (omega (arith, few_copies t.degree t.height t.allowed))

pub votes_keep : (x : VotesRule) → Lawful (votes_rule (votes_in x.votes) x.threshold)
votes_keep x = votes_lawful (votes_in x.votes) x.threshold x.allowed

-- Each of the three rules keeps the laws.
use Rattle.families.specs.Meaning.{Lawful}
use Rattle.quorum.specs.RuleLaws.{levels_keep, tree_keeps, votes_keep}
use Rattle.anyrule.specs.Meanings.{any_meaning}
use Rattle.anyrule.specs.declared.AnyRule.{AnyRule}
use Rattle.anyrule.specs.declared.AnyRule.TheVariants as any

pub keeps : (r : AnyRule) → Lawful (any_meaning r)
keeps (any.Tree r) = tree_keeps r.tree
keeps (any.Levels r) = levels_keep r.tree
keeps (any.Votes r) = votes_keep r

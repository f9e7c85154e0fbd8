-- What a rule means that is one of the three.
use Rattle.std.specs.Prelude.{◌/◌}
use Rattle.families.specs.Levels.{levels_rule}
use Rattle.families.specs.Meaning.{Meaning}
use Rattle.families.specs.Trees.{tree_rule}
use Rattle.families.specs.Votes.{votes_rule}
use Rattle.quorum.specs.VoteLists.{votes_in}
use Rattle.anyrule.specs.declared.AnyRule.{AnyRule}
use Rattle.anyrule.specs.declared.AnyRule.TheVariants as any

abbrev pub any_meaning : AnyRule → Meaning
any_meaning (any.Tree r) = tree_rule (r.tree.degree / 2) r.tree.height
any_meaning (any.Levels r) = levels_rule (r.tree.degree / 2) r.tree.height
any_meaning (any.Votes r) = votes_rule (votes_in r.votes) r.threshold

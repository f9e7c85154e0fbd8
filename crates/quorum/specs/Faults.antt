-- The refusals of trees and of rules.
use Rattle.std.specs.Prelude.{true, ◌==◌}
use Rattle.faults.specs.Line.{Line}
use Rattle.faults.specs.declared.Layer.TheVariants.{Rule, Tree}
use Rattle.quorum.specs.declared.fault.RuleFault.{RuleFault}
use Rattle.quorum.specs.declared.fault.RuleFault.TheVariants.{EvenLevel, Length, NoReadQuorum, NoWriteQuorum, VotesNotAllowed}
use Rattle.quorum.specs.declared.fault.TreeFault.{TreeFault}
use Rattle.quorum.specs.declared.fault.TreeFault.TheVariants.{NotAllowed}

abbrev pub tree_line : TreeFault → Line
tree_line NotAllowed = record { number = 15; layer = Tree; place = 0; places = λ k. (k == 0) }

abbrev pub rule_line : RuleFault → Line
rule_line NoReadQuorum = record { number = 6; layer = Rule; place = 0; places = λ k. (k == 0) }
rule_line NoWriteQuorum = record { number = 7; layer = Rule; place = 0; places = λ k. (k == 0) }
rule_line (Length n) = record { number = 14; layer = Rule; place = n; places = λ k. true }
rule_line VotesNotAllowed = record { number = 16; layer = Rule; place = 0; places = λ k. (k == 0) }
rule_line (EvenLevel l) = record { number = 18; layer = Rule; place = l; places = λ k. true }

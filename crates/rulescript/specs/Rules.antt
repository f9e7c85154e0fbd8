-- Which rule the lines of a script set up.
use Rattle.std.specs.Prelude.{List, Some, None, Option}
use Rattle.anyrule.specs.declared.RuleForm.{RuleForm}
use Rattle.anyrule.specs.declared.RuleForm.TheVariants.{Tree}
use Rattle.rulescript.specs.declared.line.Setup.{Setup}
use Rattle.rulescript.specs.declared.line.Setup.TheVariants.{Rule, Value}
use Rattle.script.specs.Order.{first_of}
use Rattle.script.specs.declared.line.Line.{Line}
use Rattle.script.specs.declared.line.Line.TheVariants as line

module _ {C : Type 0} where
  abbrev pub rule_in : Option (Line Setup C) → Option RuleForm
  rule_in None = None
  rule_in (Some line.Nothing) = None
  rule_in (Some (line.Setup (Rule f))) = Some f
  rule_in (Some (line.Setup (Value k))) = None
  rule_in (Some (line.Call c)) = None

  -- the rule that is asked for first, else that of the tree of degree 3 and height 3
  abbrev pub rule_of : List (Option (Line Setup C)) → RuleForm
  rule_of = first_of rule_in (Tree 3 3)

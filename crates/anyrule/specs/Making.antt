-- Which rule is made of what is asked for.
use Rattle.std.specs.Prelude.{◌≡◌, false, Ok, Err, vec_items, Result}
use Rattle.faults.specs.Line.{Line}
use Rattle.quorum.specs.Faults.{rule_line}
use Rattle.quorum.specs.Faults.{tree_line}
use Rattle.quorum.specs.Shapes.{allowed_tree}
use Rattle.quorum.specs.VoteLists.{votes_in}
use Rattle.quorum.specs.Voting.{NoVotesRule}
use Rattle.quorum.specs.declared.fault.TreeFault.TheVariants.{NotAllowed}
use Rattle.anyrule.specs.declared.AnyRule.{AnyRule}
use Rattle.anyrule.specs.declared.AnyRule.TheVariants as any
use Rattle.anyrule.specs.declared.FormFault.{FormFault}
use Rattle.anyrule.specs.declared.FormFault.TheVariants as fault
use Rattle.anyrule.specs.declared.RuleForm.{RuleForm}
use Rattle.anyrule.specs.declared.RuleForm.TheVariants as form

-- the rule is that of the form, with its numbers
abbrev pub HasForm : RuleForm → AnyRule → Type 0
HasForm (form.Tree b h) (any.Tree r) = (r.tree.degree ≡ b) × (r.tree.height ≡ h)
HasForm (form.Tree b h) (any.Levels r) = ⊥
HasForm (form.Tree b h) (any.Votes r) = ⊥
HasForm (form.Levels b h) (any.Tree r) = ⊥
HasForm (form.Levels b h) (any.Levels r) = (r.tree.degree ≡ b) × (r.tree.height ≡ h)
HasForm (form.Levels b h) (any.Votes r) = ⊥
HasForm (form.Votes w vs) (any.Tree r) = ⊥
HasForm (form.Votes w vs) (any.Levels r) = ⊥
HasForm (form.Votes w vs) (any.Votes r) = (votes_in r.votes ≡ vec_items vs) × (r.threshold ≡ w)

abbrev pub form_line : FormFault → Line
form_line (fault.Tree f) = tree_line f
form_line (fault.Rule f) = rule_line f

-- why there is no such rule: the tree is not allowed, or there is no votes rule of these votes
abbrev pub NoForm : RuleForm → FormFault → Type 0
NoForm (form.Tree b h) f = (allowed_tree b h ≡ false) × (f ≡ fault.Tree NotAllowed)
NoForm (form.Levels b h) f = (allowed_tree b h ≡ false) × (f ≡ fault.Tree NotAllowed)
NoForm (form.Votes w vs) (fault.Tree f) = ⊥
NoForm (form.Votes w vs) (fault.Rule f) = NoVotesRule (vec_items vs) w f

abbrev pub Makes : RuleForm → Result AnyRule FormFault → Type 0
Makes asked (Ok r) = HasForm asked r
Makes asked (Err f) = NoForm asked f

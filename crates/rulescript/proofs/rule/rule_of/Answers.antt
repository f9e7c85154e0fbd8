use Rattle.std.proofs.Common.{◌≡◌, refl, sym, ap, ◌∙◌, subst, rules}
use Rattle.anyrule.specs.Making.{Makes}
use Rattle.anyrule.specs.declared.RuleForm.TheVariants.{Tree}
use Rattle.rulescript.specs.Rules.{rule_in, rule_of}
use Rattle.script.proofs.Finding.{first_found}
use Rattle.std.specs.Option.{option_copied}
use Rattle.rulescript.proofs.rule.rule_of.Goals as goal

pub returns : goal.returns
returns g c =
    let form : c.unwrap_or.result.now ≡ rule_of c.args.lines.now =
    ap (λ r. r.now) c.unwrap_or.ensures ∙ first_found (λ r. r.now) rule_in (Tree 3 3) _ _ _ _ _ _ refl c.iter.ensures.rest (λ _ _ _ _. refl) (λ x o k. let e : option_copied o ≡ rule_in x.now = search rules in sym e) c.find_map.ensures.runs in
    subst (λ f. Makes f c.new.result) form c.new.ensures

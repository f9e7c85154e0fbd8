use Rattle.std.proofs.Common.{[], ◌∷◌, vec_items, rules}
use Rattle.anyrule.specs.declared.RuleForm.TheVariants as form
use Rattle.notation.specs.Words.{Wholes}
use Rattle.rulescript.specs.Lines.{AsksRule}
use Rattle.rulescript.proofs.Asking.{no_levels_no_rule, no_tree_no_rule, no_votes_no_rule}
use Rattle.rulescript.proofs.Heads.{behind}
use Rattle.rulescript.proofs.Mapping.{tells_mapped}
use Rattle.rulescript.proofs.asked.read_rule.Goals as goal

pub returns-in-tree : goal.returns-in-tree
returns-in-tree c =
    let all = c.in-Some.ensures.cases.0 in
    tells_mapped (λ ws p. Wholes ws (p.0 ∷ (p.1 ∷ []))) AsksRule _ _ (λ p. form.Tree p.0 p.1) _ (λ p f k. search rules)
    (λ p h. behind _ _ _ _ all c.in-tree.is (λ ws. Wholes ws (p.0 ∷ (p.1 ∷ []))) h) (no_tree_no_rule _ _ _ all c.in-tree.is) c.read_shape.result c.map.result c.map.ensures.cases c.read_shape.ensures

pub returns-in-levels : goal.returns-in-levels
returns-in-levels c =
    let all = c.in-Some.ensures.cases.0 in
    tells_mapped (λ ws p. Wholes ws (p.0 ∷ (p.1 ∷ []))) AsksRule _ _ (λ p. form.Levels p.0 p.1) _ (λ p f k. search rules)
    (λ p h. behind _ _ _ _ all c.in-levels.is (λ ws. Wholes ws (p.0 ∷ (p.1 ∷ []))) h) (no_levels_no_rule _ _ _ all c.in-levels.is) c.read_shape-in-levels.result c.map-in-levels.result c.map-in-levels.ensures.cases c.read_shape-in-levels.ensures

pub returns-in_ok-read_votes-in-votes : goal.returns-in_ok-read_votes-in-votes
returns-in_ok-read_votes-in-votes c =
    let all = c.in-Some.ensures.cases.0 in
    tells_mapped (λ ws p. Wholes ws (p.0 ∷ vec_items p.1)) AsksRule _ _ (λ p. form.Votes p.0 p.1) _ (λ p f k. search rules)
    (λ p h. behind _ _ _ _ all c.in-votes.is (λ ws. Wholes ws (p.0 ∷ vec_items p.1)) h) (no_votes_no_rule _ _ _ all c.in-votes.is) c.in_ok-read_votes-in-votes.field-0 c.map-in-votes.result c.map-in-votes.ensures.cases c.in_ok-read_votes-in-votes.ensures

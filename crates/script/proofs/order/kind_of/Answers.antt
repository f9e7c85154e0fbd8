use Rattle.std.proofs.Common.{◌≡◌, refl, sym, ◌∙◌, rules}
use Rattle.script.specs.Order.{kind_in}
use Rattle.script.specs.declared.kind.Kind.TheVariants.{Baseline}
use Rattle.script.proofs.Finding.{first_found, option_same}
use Rattle.script.proofs.order.kind_of.Goals as goal

pub returns : goal.returns
returns g c =
    let kinds = kind_in g.S.SetsUp.kind in
    c.unwrap_or.ensures ∙ first_found (λ k. k) kinds Baseline _ _ _ _ _ Baseline refl c.iter.ensures.rest (λ _ _ _ _. refl) (λ x o k. (let e : o ≡ kinds x.now = search rules in sym e) ∙ option_same o) c.find_map.ensures.runs

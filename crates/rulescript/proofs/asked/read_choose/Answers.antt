use Rattle.std.proofs.Common.{vec_items, rules}
use Rattle.rulescript.specs.Lines.{AwayWords, ChooseWords}
use Rattle.rulescript.proofs.Away.{choose_from, choose_rest}
use Rattle.rulescript.proofs.Mapping.{tells_mapped}
use Rattle.rulescript.proofs.asked.read_choose.Goals as goal

pub returns : goal.returns
returns c =
    let all = c.in-Some.ensures.cases.0 in
    tells_mapped (λ ws v. AwayWords ws (vec_items v)) (λ ws p. ChooseWords ws p.0 (vec_items p.1)) _ _ (λ v. (c.in-Ok.quorum, v)) _ (λ v p k. search rules)
    (λ v h. choose_from _ _ _ all _ _ c.in-Ok.ensures.value h) (λ none p h. none p.1 (choose_rest _ _ _ all _ _ h).1) c.in_ok-read_away.field-0 c.map.result c.map.ensures.cases c.in_ok-read_away.ensures

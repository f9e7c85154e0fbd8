use Rattle.std.proofs.Common.{vec_items, rules}
use Rattle.rulescript.specs.Lines.{ChooseWords, Means}
use Rattle.rulescript.specs.declared.line.Call.TheVariants.{Choose}
use Rattle.rulescript.proofs.Heads.{behind, no_choice_no_line}
use Rattle.rulescript.proofs.Mapping.{tells_mapped}
use Rattle.rulescript.proofs.line.read_line.Goals as goal
use Rattle.script.specs.declared.line.Line.TheVariants as line

pub returns-in_ok-read_choose-in-choose : goal.returns-in_ok-read_choose-in-choose
returns-in_ok-read_choose-in-choose g c =
    let written = g.V.Written.written in
    tells_mapped (λ ws p. ChooseWords ws p.0 (vec_items p.1)) (Means written) _ _ (λ p. line.Call (Choose p.0 p.1)) _ (λ p l k. search rules)
    (λ p h. behind c.args.words.now _ _ _ c.in-Some.ensures.cases.0 c.in-choose.is (λ ws. ChooseWords ws p.0 (vec_items p.1)) h)
    (no_choice_no_line written c.args.words.now _ _ c.in-Some.ensures.cases.0 c.in-choose.is)
    c.in_ok-read_choose-in-choose.field-0 c.map-in-choose.result c.map-in-choose.ensures.cases c.in_ok-read_choose-in-choose.ensures

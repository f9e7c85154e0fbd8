use Rattle.std.proofs.Common.{ap, subst, refl, ◌∙◌, rules}
use Rattle.std.proofs.lemmas.Result.{IfOk-weaker}
use Rattle.std.specs.Iterator.Adapters.{map_callee}
use Rattle.std.specs.Str.Iter.{lines_rest, lines_steps}
use Rattle.notation.specs.Cutting.{Lines}
use Rattle.script.specs.Reading.{ReadsLine}
use Rattle.script.proofs.Gathering.{related}
use Rattle.script.proofs.reading.read_lines.Goals as goal

pub returns : goal.returns
returns g c =
    let reads = ReadsLine g.L.Language.means in
    let start = ap lines_rest c.map.ensures.source ∙ c.lines.ensures.rest in
    IfOk-weaker c.try_collect.result _ _ (λ v k. (k.0, subst (λ t. Lines t k.0) start k.1, k.2))
    (related lines_steps (λ l. l.now) (λ i ls. Lines (lines_rest i) ls) (λ s t k. k.0.0) (λ s t x ls k more. (lines_rest t, k.0.0, k.0.2, more)) _ (map_callee c.map.result) reads (λ x y q k. search rules) c.map.result c.try_collect.result refl c.try_collect.ensures.ran)

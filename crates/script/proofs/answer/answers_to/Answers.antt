use Rattle.std.proofs.Common.{refl, rules}
use Rattle.std.specs.Iterator.Adapters.{map_callee}
use Rattle.script.proofs.Gathering.{related_to_slice}
use Rattle.script.proofs.answer.answers_to.Goals as goal

pub returns : goal.returns
returns g c =
    related_to_slice _ (map_callee c.map.result) (g.C.Answerable.answers c.args.rule.now) (λ x y q k. search rules) c.args.calls.now c.map.result c.try_collect.result (search rules) refl c.try_collect.ensures.ran

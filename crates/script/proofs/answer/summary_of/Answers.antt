use Rattle.std.proofs.Common.{◌≡◌, arith, rules}
use Rattle.std.proofs.lemmas.Grind.{common_steps}
use Rattle.std.specs.List.{count_by}
use Rattle.script.proofs.Counting.{count_not}
use Rattle.script.proofs.answer.summary_of.Goals as goal

pub returns : goal.returns
returns g c =
    let accepted : c.count-accepted.result ≡ count_by g.A.Verdict.accepted c.args.answers.now = grind (arith, common_steps) in
    record { calls_is = search rules; accepted_is = accepted; refused_is = omega (arith, count_not g.A.Verdict.accepted c.args.answers.now) }

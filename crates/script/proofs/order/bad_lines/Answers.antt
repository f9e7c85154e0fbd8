use Rattle.std.proofs.Common.{◌≡◌, ◌+◌, ◌++◌, vec_items, ap, ◌∙◌}
use Rattle.script.specs.Order.{told_as}
use Rattle.script.proofs.Ordering.{bad_more, none_told, one_told}
use Rattle.script.proofs.order.bad_lines.Goals as goal
use Rattle.script.proofs.order.bad_lines.Goals.{in-Some+in_ok-push, in_default}

pub loop-i-preserved : goal.loop-i-preserved
loop-i-preserved g c =
    let i = c.loop-i.i in
    let old = vec_items c.loop-i.bad in
    let more = bad_more g.S.SetsUp.same c.args.lines.now i old c.loop-i.invariant c.index-lines-i.result c.loop-i-test.true c.index-lines-i.is c.fault_at.result
    c.fault_at.ensures in
    let same : vec_items c.match-fault_at.bad ≡ old ++ told_as (i + 1) c.fault_at.result =
    elim c.match-fault_at.branch [
      | in-Some+in_ok-push w ↦ ap vec_items w.bad-is ∙ one_told old (vec_items w.push.new.self) (i + 1) _ _ w.in-Some.is w.in_ok-push.ensures.items
      | in_default w ↦ ap vec_items w.bad-is ∙ none_told old (i + 1) _ w.in_default.is
    ] in
    rw same more

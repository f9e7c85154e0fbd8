use Rattle.std.proofs.Common.{◌≡◌, [], ◌++◌, take, drop, vec_items}
use Rattle.script.specs.Order.{bad_lines}
use Rattle.script.proofs.order.bad_lines.Given as goal

-- the bad lines so far, and those that are left, are all
abbrev pub invariant-loop-i : goal.invariant-loop-i
invariant-loop-i g l = bad_lines g.S.SetsUp.same [] l.lines ≡ vec_items l.bad ++ bad_lines g.S.SetsUp.same (take l.i l.lines) (drop l.i l.lines)

use Rattle.std.proofs.Common.{ℕ, ◌+◌, cond, sym, ◌∙◌, arith}
use Rattle.std.proofs.lemmas.List.{take_more_set}
use Rattle.std.proofs.lemmas.List.FromFn.{map-range_with_len_more}
use Rattle.quorum.specs.Sets.{members}
use Rattle.quorum.proofs.marks.fill_marks.Goals as goal

pub loop-i-preserved : goal.loop-i-preserved
loop-i-preserved c =
    let i = c.loop-i.i in
    let mark : ℕ → ℕ = λ k. cond (members c.args.set.now k) 1 0 in
    take_more_set c.loop-i.choice i c.mark.result (omega arith)
    ∙ rw (c.loop-i.invariant, c.mark.ensures) (sym (map-range_with_len_more mark 1 i (i + 1) (omega arith)))

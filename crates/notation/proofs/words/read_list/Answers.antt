use Rattle.std.proofs.Common.{get_or, vec_items, arith, rules}
use Rattle.numbers.specs.Written.{Whole}
use Rattle.notation.specs.Meanings.{length_texts, to_ref, wholes_at, wholes_length, wholes_more}
use Rattle.notation.proofs.words.read_list.Goals as goal

pub returns-in_default : goal.returns-in_default
returns-in_default c v h =
    let i = c.loop-word.word-index in
    let n = get_or (vec_items v) i 0 in
    let is = wholes_at _ (vec_items v) h i (omega (arith, wholes_length _ (vec_items v) h, length_texts c.args.words.now)) in
    c.in_default.ensures n is.1 (to_ref (λ w. Whole w n) c.args.words.now i _ (omega arith) is.0)

pub loop-word-preserved : goal.loop-word-preserved
loop-word-preserved c =
    wholes_more c.args.words.now c.loop-word.word-index _ _ _ c.in-Some.number c.loop-word-test.true c.loop-word.invariant (c.in-Some.ensures, search rules) c.in_ok-push.ensures.items

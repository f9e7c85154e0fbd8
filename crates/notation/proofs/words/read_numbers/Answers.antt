use Rattle.std.proofs.Common.{get_or, arith}
use Rattle.numbers.specs.Written.{Whole}
use Rattle.notation.specs.Meanings.{length_texts, to_ref, wholes_at, wholes_from, wholes_length}
use Rattle.notation.proofs.words.read_numbers.Goals as goal

pub returns-then-words : goal.returns-then-words
returns-then-words g c = λ ns h. omega (arith, h.0, wholes_length _ ns h.1, length_texts c.args.words.now)

pub returns-in_err-numbers : goal.returns-in_err-numbers
returns-in_err-numbers g c =
    rw c.from_residual.ensures (λ ns h.
    let is = wholes_at _ ns h.1 c.loop-i.i (omega (arith, h.0)) in
    c.in_err-numbers.ensures (get_or ns c.loop-i.i 0) is.1 (to_ref (λ w. Whole w (get_or ns c.loop-i.i 0)) c.args.words.now c.loop-i.i _ (omega arith) is.0))

pub returns : goal.returns
returns g c = (
  omega (arith, c.loop-i.invariant.0),
  wholes_from _ _ (omega (arith, c.loop-i.invariant.0, length_texts c.args.words.now)) (λ k h. c.loop-i.invariant.1 k (omega (arith, c.loop-i.invariant.0))),
)

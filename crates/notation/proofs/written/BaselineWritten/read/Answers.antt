use Rattle.std.proofs.Common.{◌≡◌, length, Some, None, arith, rules}
use Rattle.numbers.specs.Written.{Whole, Writes}
use Rattle.notation.proofs.Parsed.{parsed}
use Rattle.notation.specs.Meanings.{from_ref, length_texts, to_ref}
use Rattle.notation.proofs.written.BaselineWritten.read.Goals as goal

pub returns-in_err-x : goal.returns-in_err-x
returns-in_err-x c =
    let four : length c.args.words.now ≡ 4 = search rules in
    rw c.from_residual.ensures (λ a h. parsed _ None _ c.parse.ensures.value c.in_err-x.ensures.value h.x.0 h.x_is.1 (to_ref (λ w. Writes w h.x.0) c.args.words.now 0 _ (omega arith) h.x_is.0))

pub returns-in_err-y : goal.returns-in_err-y
returns-in_err-y c =
    let four : length c.args.words.now ≡ 4 = search rules in
    rw c.from_residual-in_err-y.ensures (λ a h. parsed _ None _ c.parse-2.ensures.value c.in_err-y.ensures.value h.y.0 h.y_is.1 (to_ref (λ w. Writes w h.y.0) c.args.words.now 1 _ (omega arith) h.y_is.0))

pub returns-in_err-z : goal.returns-in_err-z
returns-in_err-z c =
    let four : length c.args.words.now ≡ 4 = search rules in
    rw c.from_residual-in_err-z.ensures (λ a h. parsed _ None _ c.parse-3.ensures.value c.in_err-z.ensures.value h.z.0 h.z_is.1 (to_ref (λ w. Writes w h.z.0) c.args.words.now 2 _ (omega arith) h.z_is.0))

pub returns-in_err-day : goal.returns-in_err-day
returns-in_err-day c =
    let four : length c.args.words.now ≡ 4 = search rules in
    rw c.from_residual-in_err-day.ensures (λ a h. c.in_err-day.ensures h.day h.day_is.1 (to_ref (λ w. Whole w h.day) c.args.words.now 3 _ (omega arith) h.day_is.0))

pub returns : goal.returns
returns c =
    let four : length c.args.words.now ≡ 4 = search rules in
    record {
      count = omega (arith, length_texts c.args.words.now);
      x = c.in_ok-x.x;
      y = c.in_ok-y.y;
      z = c.in_ok-z.z;
      day = c.in_ok-day.day;
      x_is = (from_ref (λ w. Writes w c.in_ok-x.x.0) c.args.words.now 0 _ (omega arith) (parsed _ (Some c.in_ok-x.x) _ c.parse.ensures.value c.in_ok-x.ensures.value), search rules);
      y_is = (from_ref (λ w. Writes w c.in_ok-y.y.0) c.args.words.now 1 _ (omega arith) (parsed _ (Some c.in_ok-y.y) _ c.parse-2.ensures.value c.in_ok-y.ensures.value), search rules);
      z_is = (from_ref (λ w. Writes w c.in_ok-z.z.0) c.args.words.now 2 _ (omega arith) (parsed _ (Some c.in_ok-z.z) _ c.parse-3.ensures.value c.in_ok-z.ensures.value), search rules);
      day_is = (from_ref (λ w. Whole w c.in_ok-day.day) c.args.words.now 3 _ (omega arith) c.in_ok-day.ensures, search rules);
      made = c.new.ensures;
    }

use Rattle.std.proofs.Common.{◌≡◌, pos, ◌-ℤ◌, neg_ℤ, nat_abs, Some, None, refl, ap, inr, arith, lit<, w64, to_z, of_z}
use Rattle.std.proofs.lemmas.Str.Pattern.{strip_prefix_char}
use Rattle.std.proofs.lemmas.Int.{ints}
use Rattle.numbers.proofs.Reading.{abs_neg, signed_minus, signed_plain}
use Rattle.numbers.proofs.tenths.read_signed.Goals as goal

pub returns-in_err-read_size-in-Some : goal.returns-in_err-read_size-in-Some
returns-in_err-read_size-in-Some c =
    let minus = strip_prefix_char 45 c.args.text.now (Some c.in-Some.rest) c.in-Some.ensures.cases (lit< tt) in
    rw c.from_residual.ensures (λ z small w.
    let p = signed_minus _ _ minus z w in
    c.in_err-read_size-in-Some.ensures p.0 (omega (arith, ap nat_abs p.2, abs_neg p.0)) p.1)

pub returns-in_err-read_size-in-None : goal.returns-in_err-read_size-in-None
returns-in_err-read_size-in-None c =
    let plain = strip_prefix_char 45 c.args.text.now None c.in-None.ensures.cases (lit< tt) in
    rw c.from_residual-in_err-read_size-in-None.ensures (λ z small w.
    let p = signed_plain _ plain z w in
    c.in_err-read_size-in-None.ensures p.0 (omega (arith, ap nat_abs p.2)) p.1)

pub returns-in_ok-read_size-in-Some : goal.returns-in_ok-read_size-in-Some
returns-in_ok-read_size-in-Some c =
    let minus = strip_prefix_char 45 c.args.text.now (Some c.in-Some.rest) c.in-Some.ensures.cases (lit< tt) in
    let k = c.in_ok-read_size-in-Some.field-0 in
    let same : to_z w64 (of_z w64 (pos 0 -ℤ to_z w64 (of_z w64 c.from.result))) ≡ neg_ℤ (pos k) = omega (arith, ints) in
    rw same (inr (c.in-Some.rest.now, k, minus, c.in_ok-read_size-in-Some.ensures, refl))

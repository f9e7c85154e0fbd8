use Rattle.std.proofs.Common.{Some, None, inl, inr, arith, lit<}
use Rattle.std.proofs.lemmas.Str.Pattern.{split_parts}
use Rattle.numbers.proofs.Reading.{size_at_point, size_no_point, sized_by}
use Rattle.numbers.proofs.tenths.read_size.Goals as goal

pub returns-in_err-read_digits-in-Some : goal.returns-in_err-read_digits-in-Some
returns-in_err-read_digits-in-Some c =
    let cut = split_parts 46 c.args.text.now (Some (c.in-Some.digits, c.in-Some.place)) c.in-Some.ensures.cases (lit< tt) in
    rw c.from_residual.ensures (λ n small s.
    let p = size_at_point _ _ _ cut.0 cut.1 n s in
    c.in_err-read_digits-in-Some.ensures p.2 (omega (arith, p.4)))

pub returns-in_err-read_place-in-Some : goal.returns-in_err-read_place-in-Some
returns-in_err-read_place-in-Some c =
    let cut = split_parts 46 c.args.text.now (Some (c.in-Some.digits, c.in-Some.place)) c.in-Some.ensures.cases (lit< tt) in
    rw c.from_residual-in_err-read_place-in-Some.ensures (λ n small s.
    let p = size_at_point _ _ _ cut.0 cut.1 n s in
    c.in_err-read_place-in-Some.ensures p.0 p.3 p.1)

pub returns-in_err-read_whole-in-None : goal.returns-in_err-read_whole-in-None
returns-in_err-read_whole-in-None c =
    let lacks = split_parts 46 c.args.text.now None c.in-None.ensures.cases (lit< tt) in
    rw c.from_residual-in_err-read_whole-in-None.ensures (λ n small s.
    let p = size_no_point _ lacks n s in
    c.in_err-read_whole-in-None.ensures p.0 (omega (arith, p.2)) p.1)

pub returns-in_ok-read_place-in-Some : goal.returns-in_ok-read_place-in-Some
returns-in_ok-read_place-in-Some c =
    let cut = split_parts 46 c.args.text.now (Some (c.in-Some.digits, c.in-Some.place)) c.in-Some.ensures.cases (lit< tt) in
    let digits = c.in_ok-read_digits-in-Some.ensures in
    let place = c.in_ok-read_place-in-Some.ensures in
    sized_by c.tens_and_place.result c.args.text.now _ c.tens_and_place.ensures
    (inr (c.in-Some.digits.now, c.in_ok-read_place-in-Some.field-0, rw place.1 at cut.0, digits.0, place.0, omega (arith, digits.1)))

pub returns-in_ok-read_whole-in-None : goal.returns-in_ok-read_whole-in-None
returns-in_ok-read_whole-in-None c =
    sized_by c.tens_and_place-in-None.result c.args.text.now _ c.tens_and_place-in-None.ensures
    (inl (c.in_ok-read_whole-in-None.field-0, c.in_ok-read_whole-in-None.ensures, omega arith))

use Rattle.std.proofs.Common.{◌≡◌, Ok, Err, ◌∙◌, w32, w64, SFits, to_z, of_z, rules}
use Rattle.std.proofs.lemmas.Int.{to_z-of_z}
use Rattle.numbers.proofs.Reading.{abs_small, reads_right, writes_unique}
use Rattle.numbers.proofs.tenths.TenthsFromStr.from_str.Goals as goal

pub returns-in_default : goal.returns-in_default
returns-in_default c = reads_right c.args.text.now (Err (record {})) (λ z fits. c.in_default.ensures z (abs_small z fits))

pub returns-in-Ok : goal.returns-in-Ok
returns-in-Ok c =
    let number = c.in-Some.number in
    let wide : SFits w64 number = search rules in
    let narrow : SFits w32 c.in-Ok.tenths = search rules in
    let same : to_z w32 (of_z w32 c.in-Ok.tenths) ≡ number = to_z-of_z w32 c.in-Ok.tenths narrow ∙ c.in-Ok.ensures.1 ∙ to_z-of_z w64 number wide in
    reads_right c.args.text.now (Ok (record { 0 = to_z w32 (of_z w32 c.in-Ok.tenths) })) (rw same c.in-Some.ensures)

pub returns-in-Err : goal.returns-in-Err
returns-in-Err c =
    let number = c.in-Some.number in
    let wide : SFits w64 number = search rules in
    reads_right c.args.text.now (Err (record {}))
    (λ z fits w. c.in-Err.ensures (rw (to_z-of_z w64 number wide, writes_unique c.args.text.now number z c.in-Some.ensures w) fits))

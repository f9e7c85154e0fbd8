use Rattle.std.proofs.Common.{not, vec_items, sym, ap, ◌∙◌, arith, ne_eqb}
use Rattle.banks.specs.Limits.{first_record}
use Rattle.imagebank.proofs.ImageBank.new.Goals as goal
use Rattle.imagebank.proofs.NewWords.{new_image}

pub invariant_of-result : goal.invariant_of-result
invariant_of-result g c =
    let r = c.first.result in
    let words = c.in_ok-new_words-in-Ok.field-0 in
    let done = new_image g.V.Value.KIND c.args.stations c.args.entries _ c.in-Ok.sizes r.plain (vec_items words) c.in-Ok.ensures c.first.ensures r.fits c.in_ok-new_words-in-Ok.ensures in
    record { sound = done.0; told = sym (ap not (ne_eqb words.len 0 (λ e. omega (arith, done.1, words.ok.0, e)))) }

pub returns-in_ok-new_words-in-Ok : goal.returns-in_ok-new_words-in-Ok
returns-in_ok-new_words-in-Ok g c =
    let r = c.first.result in
    let words = c.in_ok-new_words-in-Ok.field-0 in
    (new_image g.V.Value.KIND c.args.stations c.args.entries _ c.in-Ok.sizes r.plain (vec_items words) c.in-Ok.ensures (c.first.ensures ∙ ap (λ v. first_record (g.V.Value.coded v)) c.blank.ensures) r.fits c.in_ok-new_words-in-Ok.ensures).2

use Rattle.std.proofs.Common.{◌≡◌, length, Err, vec_items, ap, ◌∙◌, arith}
use Rattle.banks.proofs.Causes.{store_refused}
use Rattle.banks.specs.Calls.{store_answer, stored}
use Rattle.std.proofs.lemmas.List.{with_items_is}
use Rattle.std.proofs.lemmas.Result.{err_from_is_err_and}
use Rattle.words.specs.Format.{five, imaged, record_word}
use Rattle.imagebank.specs.Whole.{whole}
use Rattle.imagebank.proofs.ImageBankBank.store.Goals as goal
use Rattle.imagebank.proofs.Writes.{fits_there, written}

pub returns-in_err-check_call : goal.returns-in_err-check_call
returns-in_err-check_call c =
    let b = imaged (vec_items c.args.self.now.words) in
    let no = store_refused b c.args.station c.args.entry c.args.kept c.in_err-check_call.field-0.0 (c.in_err-check_call.ensures b c.layout-layout.ensures c.in_reach.ensures) in
    let told = err_from_is_err_and c.from_residual.result c.from_residual.ensures.1 in
    record { answer = told.1 ∙ ap Err told.2 ∙ no.0; after = no.1 }

pub put_record-requires : goal.put_record-requires
put_record-requires c =
    let b = c.args.self.now in
    let ws = vec_items b.words in
    let ok = c.in_ok-check_call.ensures (imaged ws) c.layout-layout.ensures c.in_reach.ensures in
    let inside = fits_there ws b.sound c.args.station c.args.entry ok _ c.layout-layout.ensures _ c.place_of_record-place.ensures in
    (omega (arith, inside.0, ap length c.as_mut_slice.ensures.value), inside.1)

pub invariant_of-self : goal.invariant_of-self
invariant_of-self c =
    let b = c.args.self.now in
    let ws = vec_items b.words in
    let ok = c.in_ok-check_call.ensures (imaged ws) c.layout-layout.ensures c.in_reach.ensures in
    let put = c.put_record.ensures ∙ ap (λ l. five l c.place_of_record-place.result (record_word c.args.entry c.in_ok-kept.kept.plain)) c.as_mut_slice.ensures.value in
    let done = written ws b.sound c.args.station c.args.entry ok _ c.layout-layout.ensures _ c.place_of_record-place.ensures c.in_ok-kept.kept.plain c.in_ok-kept.kept.fits _ put in
    record { sound = ap whole (with_items_is b.words c.put_record.new.words (omega (arith, done.1, b.words.ok.0))) ∙ done.0; told = b.told }

pub returns : goal.returns
returns c =
    let b = c.args.self.now in
    let ws = vec_items b.words in
    let s = c.args.station in let e = c.args.entry in
    let ok = c.in_ok-check_call.ensures (imaged ws) c.layout-layout.ensures c.in_reach.ensures in
    let put = c.put_record.ensures ∙ ap (λ l. five l c.place_of_record-place.result (record_word e c.in_ok-kept.kept.plain)) c.as_mut_slice.ensures.value in
    let same : c.in_ok-kept.kept.plain ≡ c.args.kept = rw c.in_ok-kept.ensures.ok_part at c.new.ensures in
    let done = written ws b.sound s e ok _ c.layout-layout.ensures _ c.place_of_record-place.ensures c.in_ok-kept.kept.plain c.in_ok-kept.kept.fits _ put in
    record {
      answer = done.2 ∙ ap (store_answer (imaged ws) s e) same;
      after = ap imaged (with_items_is b.words c.put_record.new.words (omega (arith, done.1, b.words.ok.0))) ∙ done.3 ∙ ap (stored (imaged ws) s e) same;
    }

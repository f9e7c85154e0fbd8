-- Reading and writing words, by the bank that they tell of.
use Rattle.std.proofs.Common.{◌≡◌, ℕ, ◌+◌, ◌<◌, ◌≤◌, Bool, true, false, List, [], length, set, Some, None, Ok, Option, sym, refl, ap, ◌∙◌, arith}
use Rattle.std.specs.Option.{is_some}
use Rattle.std.specs.Result.{result_err}
use Rattle.banks.proofs.Causes.{reach_done, store_done, there}
use Rattle.banks.proofs.Ranges.{to_high}
use Rattle.banks.specs.Calls.{answered, fetch_fault, reach_set, sizes_of, store_answer, stored}
use Rattle.banks.specs.Limits.{between, within}
use Rattle.banks.specs.declared.fault.BankFault.{BankFault}
use Rattle.banks.specs.declared.record.Record.{Record}
use Rattle.banks.specs.declared.record.Sizes.{Sizes}
use Rattle.words.proofs.Changes.{five_long}
use Rattle.words.proofs.Checks.{image_of_told}
use Rattle.words.proofs.Images.{small}
use Rattle.words.proofs.Plains.{unshut}
use Rattle.words.specs.Checking.{check_fault}
use Rattle.words.specs.Format.{five, image, imaged, record_place, record_word, station_place, station_word}
use Rattle.imagebank.specs.Whole.{OfWords, whole}
use Rattle.imagebank.specs.Wholes.{after_reach, after_store, plain, record_in}

module _ (ws : List ℕ) (sound : whole ws ≡ true) (s e : ℕ) (ok : Ok tt ≡ answered {A = Unit {0}} (fetch_fault (imaged ws) s e) tt) (z : Sizes) (is : z ≡ sizes_of (imaged ws)) (p : ℕ) (at_told : p ≡ record_place z.entries s e) where
  at : p ≡ record_place (imaged ws).m s e
  at = at_told ∙ ap (λ x. record_place x.entries s e) is

  pub fits_there : (p + 4 < length ws) × (e ≤ 48)
  fits_there =
      let here = there (imaged ws) s e ok in (
        omega (arith, at, record_in ws sound s here.0 e 4 here.1 (omega arith)),
        omega (arith, (small (imaged ws) (plain ws sound s here.0)).2, to_high 1 (imaged ws).m e here.1),
      )

  pub written : (r : Record) → within r ≡ true → (after : List ℕ) → after ≡ five ws p (record_word e r) → (whole after ≡ true) × (length after ≡ length ws) × (Ok tt ≡ store_answer (imaged ws) s e r) × (imaged after ≡ stored (imaged ws) s e r)
  written r fits after put =
      let here = there (imaged ws) s e ok in
      let are : after ≡ five ws (record_place (imaged ws).m s e) (record_word e r) = put ∙ ap (λ k. five ws k (record_word e r)) at in
      let kept = after_store ws sound s here.0 e r here.1 fits in
      let done = store_done (imaged ws) s e r ok fits in
      (ap whole are ∙ kept.0, ap length put ∙ five_long ws p (record_word e r), done.0, ap imaged are ∙ kept.1 ∙ done.1)

pub reached : (ws : List ℕ) → whole ws ≡ true → (s p : ℕ) (v : Bool) → between 1 (imaged ws).n s ≡ true → p ≡ station_place (imaged ws).m s → (w : ℕ) → w ≡ station_word s v → (whole (set ws p w) ≡ true) × (imaged (set ws p w) ≡ reach_set (imaged ws) s v)
reached ws sound s p v here at w is =
    let are : set ws p w ≡ set ws (station_place (imaged ws).m s) (station_word s v) = rw (at, is) refl in
    let kept = after_reach ws sound s here v in
    (ap whole are ∙ kept.0, ap imaged are ∙ kept.1 ∙ (reach_done (imaged ws) s v here (unshut (imaged ws) (plain ws sound s here) s)).1)

pub err_answer : (o : Option BankFault) → result_err (answered {A = Unit {0}} o tt) ≡ o
err_answer None = refl
err_answer (Some f) = refl

-- words that are an image are kept, others are dropped
pub of_words : (ws after : List ℕ) (o : Option BankFault) → o ≡ check_fault ws → (is_some o ≡ true → after ≡ []) → (is_some o ≡ false → after ≡ ws) → OfWords ws (imaged after) o
of_words ws after None e gone kept = (e, (ap imaged (kept refl), ap (λ l. image (imaged l)) (kept refl) ∙ sym (image_of_told ws (sym e))))
of_words ws after (Some f) e gone kept = (e, ap imaged (gone refl))

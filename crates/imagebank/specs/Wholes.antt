-- Words that an image bank keeps are the image of what they tell.
use Rattle.std.specs.Prelude.{◌≡◌, ℕ, ◌+◌, ◌<◌, Bool, true, ◌||◌, List, [], ◌∷◌, length, set, None, Ok, Option, ◌≢◌, ◌==◌, slice_index, slice_set, refl}
use Rattle.std.proofs.Common.{sym, ap, ◌∙◌, arith}
use Rattle.banks.proofs.Makings.{empty_lawful}
use Rattle.banks.proofs.Ranges.{from_low, to_high}
use Rattle.banks.specs.Calls.{answered, with_cell, with_reach}
use Rattle.banks.specs.Limits.{between, within}
use Rattle.banks.specs.Meaning.{Lawful, Meaning}
use Rattle.banks.specs.declared.fault.BankFault.{BankFault}
use Rattle.banks.specs.declared.record.Record.{Record}
use Rattle.std.proofs.lemmas.Bool.Decides.{nat_tests}
use Rattle.words.proofs.Changes.{image_reached, image_stored}
use Rattle.words.proofs.Checks.{clear_answer, image_of_told, image_passes, told_plain}
use Rattle.words.proofs.Images.{Plain, field_read, given_back, length_image, reach_told, record_told, station_read}
use Rattle.words.proofs.Plains.{plain_cell, plain_lawful, plain_reach}
use Rattle.words.proofs.Spots.{record_inside, station_inside}
use Rattle.words.specs.Checking.{check_fault}
use Rattle.words.specs.Format.{five, image, imaged, record_place, record_word, size, station_place, station_word, told_reach, told_record}
use Rattle.imagebank.specs.Whole.{OfWords, is_none, whole}

-- words that are there are an image
pub passed : (w : ℕ) (ws : List ℕ) → whole (w ∷ ws) ≡ true → check_fault (w ∷ ws) ≡ None
passed w ws h = none_if (w ∷ ws) (check_fault (w ∷ ws)) (omega arith) h
  where
    none_if : (l : List ℕ) (o : Option BankFault) → 0 < length l → (length l == 0 || is_none o) ≡ true → o ≡ None
    none_if l o some h = grind (arith, nat_tests)

pub whole_image : (ws : List ℕ) → whole ws ≡ true → ws ≡ image (imaged ws)
whole_image [] h = refl
whole_image (w ∷ ws) h = image_of_told (w ∷ ws) (passed w ws h)

pub whole_if : (ws : List ℕ) → check_fault ws ≡ None → whole ws ≡ true
whole_if ws e = grind (arith, nat_tests)

module _ (ws : List ℕ) where
  pub accepted : Ok tt ≡ answered {A = Unit {0}} (check_fault ws) tt → OfWords ws (imaged ws) None
  accepted h = let none = clear_answer (check_fault ws) (sym h) in (sym none, (refl, sym (image_of_told ws none)))

in_nothing : (s : ℕ) → between 1 0 s ≢ true
in_nothing s h = omega (arith, from_low 1 0 s h, to_high 1 0 s h)

-- words that tell of a station
module _ (ws : List ℕ) (sound : whole ws ≡ true) (s : ℕ) (hs : between 1 (imaged ws).n s ≡ true) where
  pub an_image : check_fault ws ≡ None
  an_image = by ws sound hs
    where
      by : (l : List ℕ) → whole l ≡ true → between 1 (imaged l).n s ≡ true → check_fault l ≡ None
      by [] q h = absurd (in_nothing s h)
      by (w ∷ l) q h = passed w l q

  pub plain : Plain (imaged ws)
  plain = told_plain ws an_image

  abbrev b : Meaning
  b = imaged ws

  is_image : ws ≡ image b
  is_image = whole_image ws sound

  pub long : length ws ≡ size b.n b.m
  long = ap length is_image ∙ length_image b plain.sized

  pub station_in : station_place b.m s < length ws
  station_in = omega (arith, long, station_inside b.n b.m s hs)

  pub read_reach : told_reach (slice_index ws (station_place b.m s)) ≡ (b.station s).reach
  read_reach =
      ap (λ l. told_reach (slice_index l (station_place b.m s))) is_image ∙ ap told_reach (station_read b plain.sized s hs) ∙ reach_told s (b.station s).reach

  pub record_in : (e f : ℕ) → between 1 b.m e ≡ true → f < 5 → record_place b.m s e + f < length ws
  record_in e f he hf = omega (arith, long, record_inside b.n b.m s hs e f he hf)

  pub read_record : (e : ℕ) → between 1 b.m e ≡ true → told_record ws (record_place b.m s e) ≡ b.cell s e
  read_record e he =
      ap (λ l. told_record l (record_place b.m s e)) is_image
      ∙ record_told (b.cell s e) (plain.limits s e hs he) (image b) (record_place b.m s e) e
      (λ f hf. field_read b plain.sized s e f hs he hf)

  -- the words after a change
  pub after_reach : (v : Bool) → (whole (slice_set ws (station_place b.m s) (station_word s v)) ≡ true) × (imaged (slice_set ws (station_place b.m s) (station_word s v)) ≡ with_reach b s v)
  after_reach v =
      let changed : set ws (station_place b.m s) (station_word s v) ≡ image (with_reach b s v) = ap (λ l. set l (station_place b.m s) (station_word s v)) is_image ∙ image_reached b plain.sized s hs v in
      let kept = plain_reach b plain s hs v in
      (whole_if (slice_set ws (station_place b.m s) (station_word s v)) (ap check_fault changed ∙ image_passes (with_reach b s v) kept), ap imaged changed ∙ given_back (with_reach b s v) kept)

  pub after_store : (e : ℕ) (r : Record) → between 1 b.m e ≡ true → within r ≡ true → (whole (five ws (record_place b.m s e) (record_word e r)) ≡ true) × (imaged (five ws (record_place b.m s e) (record_word e r)) ≡ with_cell b s e r)
  after_store e r he fits =
      let changed : five ws (record_place b.m s e) (record_word e r) ≡ image (with_cell b s e r) = ap (λ l. five l (record_place b.m s e) (record_word e r)) is_image ∙ image_stored b plain.sized s e hs he r in
      let kept = plain_cell b plain s hs e r he fits in
      (whole_if (five ws (record_place b.m s e) (record_word e r)) (ap check_fault changed ∙ image_passes (with_cell b s e r) kept), ap imaged changed ∙ given_back (with_cell b s e r) kept)

pub whole_lawful : (ws : List ℕ) → whole ws ≡ true → Lawful (imaged ws)
whole_lawful [] h = empty_lawful
whole_lawful (w ∷ ws) h = plain_lawful (imaged (w ∷ ws)) (told_plain (w ∷ ws) (passed w ws h))

-- Which words are an image: those that pass the test.
use Rattle.std.proofs.Common.{◌≡◌, ℕ, zero, suc, ◌+◌, ◌*◌, ◌%◌, ◌<◌, ◌≤◌, Bool, true, false, cond, not, ◌&&◌, T, eqb, List, [], ◌∷◌, map, length, get_or, Some, None, Ok, Option, sym, refl, ap, ◌∙◌, subst, arith, eq-eqb, ne_eqb, eqb-true}
use Rattle.std.proofs.lemmas.List.{ext_get_or}
use Rattle.std.proofs.lemmas.Bool.Decides.{nat_tests}
use Rattle.std.specs.List.{range_with_len}
use Rattle.banks.proofs.Ranges.{and_left, and_right, entries_in, to_high}
use Rattle.banks.specs.Calls.{Cause, answered, first}
use Rattle.banks.specs.Limits.{allowed, between, within}
use Rattle.banks.specs.Meaning.{Meaning}
use Rattle.banks.specs.declared.fault.BankFault.{BankFault}
use Rattle.banks.specs.declared.record.Record.{Record}
use Rattle.words.specs.Checking.{bad_head, bad_length, bad_word, check_fault, due, no_words}
use Rattle.words.specs.Format.{head_word, image, image_word, imaged, kind_of, record_place, record_word, size, station_place, station_word, told_bank, told_entries, told_kind, told_reach, told_record, told_stations, word}
use Rattle.words.proofs.Images.{Plain, entries_told, given_back, kind_told, length_image, plain_station, small, stations_told, word_at}
use Rattle.words.proofs.Spots.{Spot, field, field_there, head, record_inside, spot, station, station_there}

-- causes in a row
pub all_clear : (f : ℕ → Cause) (a n : ℕ) → ((k : ℕ) → a ≤ k → k < a + n → (f k).met ≡ false) → first (map f (range_with_len a n)) ≡ None
all_clear f a zero h = refl
all_clear f a (suc n) h = rw (h a (omega arith) (omega arith)) (all_clear f (a + 1) n (λ k low high. h k (omega arith) (omega arith)))

pub clear_step : (b : Bool) (t : BankFault) (o : Option BankFault) → cond b (Some t) o ≡ None → (b ≡ false) × (o ≡ None)
clear_step b t o e = (grind (arith, nat_tests), grind (arith, nat_tests))

cleared : (f : ℕ → Cause) (a n : ℕ) → first (map f (range_with_len a n)) ≡ None → (k : ℕ) → a ≤ k → k < a + n → (f k).met ≡ false
cleared f a zero e k low high = absurd (omega arith)
cleared f a (suc n) e k low high = let later = cleared f (a + 1) n in grind (arith, nat_tests, later)

pass_all : (x y z : Cause) (cs : List Cause) → x.met ≡ false → y.met ≡ false → z.met ≡ false → first cs ≡ None → first (x ∷ (y ∷ (z ∷ cs))) ≡ None
pass_all x y z cs p q r e = rw (p, q, r) e

pub not_false : (a : Bool) → not a ≡ false → a ≡ true
not_false true e = refl
not_false false e = sym e

not_true : (a : Bool) → not a ≡ true → a ≡ false
not_true true e = sym e
not_true false e = refl

-- no word of an image tells the number 0
abbrev zero_told : ℕ → Bool
zero_told w = eqb (kind_of w) 3 && eqb (w % 65536) 0

field_number : (e : ℕ) (r : Record) (f : ℕ) → e ≤ 48 → within r ≡ true → zero_told (record_word e r f) ≡ false
field_number e r zero h ok = grind (arith, nat_tests)
field_number e r (suc zero) h ok = grind (arith, nat_tests)
field_number e r (suc (suc zero)) h ok = grind (arith, nat_tests)
field_number e r (suc (suc (suc zero))) h ok = grind (arith, nat_tests)
field_number e r (suc (suc (suc (suc k)))) h ok = grind (arith, nat_tests)

station_number : (s : ℕ) (v : Bool) → s ≤ 64 → zero_told (station_word s v) ≡ false
station_number s v h = grind (arith, nat_tests)

module _ (b : Meaning) (plain : Plain b) where
  number_there : (k : ℕ) → Spot b.n b.m k → zero_told (image_word b k) ≡ false
  number_there k (head e) = let sizes = small b plain in rw e (grind (arith, nat_tests))
  number_there k (station s hs e) =
      ap (λ x. zero_told (image_word b x)) e ∙ ap zero_told (station_there b s hs) ∙ station_number s (b.station s).reach (omega (arith, to_high 1 b.n s hs, (small b plain).1))
  number_there k (field s e f hs he hf q) =
      ap (λ x. zero_told (image_word b x)) q ∙ ap zero_told (field_there b s hs e f he hf) ∙ field_number e (b.cell s e) f (omega (arith, to_high 1 b.m e he, (small b plain).2)) (plain.limits s e hs he)

  due_there : (k : ℕ) → k < size b.n b.m → due (image b) k ≡ true
  due_there k h =
      let here : get_or (image b) k 0 ≡ image_word b k = word_at b plain.sized k h in
      let back : image_word (imaged (image b)) k ≡ image_word b k = ap (λ x. image_word x k) (given_back b plain) in
      rw (here, back, number_there k (spot b.n b.m k h)) (ap (λ t. t && true) (eq-eqb (image_word b k) (image_word b k) refl))

  first_word : get_or (image b) 0 0 ≡ head_word b.kind b.n b.m
  first_word = word_at b plain.sized 0 (omega arith)

  -- an image passes the test
  pub image_passes : check_fault (image b) ≡ None
  image_passes =
      let w = head_word b.kind b.n b.m in
      let long = length_image b plain.sized in
      let one : kind_of w ≡ 1 = omega (arith, (small b plain).0, (small b plain).1, (small b plain).2) in
      let sizes : allowed (told_kind w) (told_stations w) (told_entries w) ≡ true = rw (kind_told b plain, stations_told b plain, entries_told b plain) plain.sized in
      let well : (bad_head w).met ≡ false = rw (one, sizes) refl in
      let fits : (bad_length (image b) w).met ≡ false = rw (stations_told b plain, entries_told b plain) (ap not (eq-eqb (length (image b)) (size b.n b.m) long)) in
      pass_all (no_words (image b)) (bad_head (get_or (image b) 0 0)) (bad_length (image b) (get_or (image b) 0 0)) (map (bad_word (image b)) (range_with_len 0 (length (image b))))
      (ne_eqb (length (image b)) 0 (λ z. omega (arith, long, z)))
      (ap (λ x. (bad_head x).met) first_word ∙ well)
      (ap (λ x. (bad_length (image b) x).met) first_word ∙ fits)
      (all_clear (bad_word (image b)) 0 (length (image b)) (λ k low high. ap not (due_there k (omega (arith, long)))))

pub as_told : (ws : List ℕ) → (no_words ws).met ≡ false → imaged ws ≡ told_bank (told_kind (get_or ws 0 0)) (told_stations (get_or ws 0 0)) (told_entries (get_or ws 0 0)) ws
as_told [] e = absurd (subst T e tt)
as_told (w ∷ ws) e = refl

told_in : (ws : List ℕ) (p e : ℕ) → e ≤ 48 → get_or ws p 0 ≡ word 3 (e * 65536 + get_or ws p 0 % 65536) → zero_told (get_or ws p 0) ≡ false → within (told_record ws p) ≡ true
told_in ws p e few is some = grind (arith, nat_tests)

-- words that pass the test are the image of what they tell
module _ (ws : List ℕ) (passes : check_fault ws ≡ None) where
  tests : ((no_words ws).met ≡ false) × ((bad_head (get_or ws 0 0)).met ≡ false) × ((bad_length ws (get_or ws 0 0)).met ≡ false) × (first (map (bad_word ws) (range_with_len 0 (length ws))) ≡ None)
  tests =
      let a = clear_step (no_words ws).met _ _ passes in
      let c = clear_step (bad_head (get_or ws 0 0)).met _ _ a.1 in
      let d = clear_step (bad_length ws (get_or ws 0 0)).met _ _ c.1 in
      (a.0, c.0, d.0, d.1)

  all_due : (k : ℕ) → k < length ws → due ws k ≡ true
  all_due k h = not_false (due ws k) (cleared (bad_word ws) 0 (length ws) tests.3 k (omega arith) (omega arith))

  abbrev b : Meaning
  b = told_bank (told_kind (get_or ws 0 0)) (told_stations (get_or ws 0 0)) (told_entries (get_or ws 0 0)) ws

  is_b : imaged ws ≡ b
  is_b = as_told ws tests.0

  head_right : (eqb (kind_of (get_or ws 0 0)) 1 && allowed b.kind b.n b.m) ≡ true
  head_right = not_false _ tests.1

  sized : allowed b.kind b.n b.m ≡ true
  sized = and_right (eqb (kind_of (get_or ws 0 0)) 1) (allowed b.kind b.n b.m) head_right

  long : length ws ≡ size b.n b.m
  long = eqb-true (length ws) (size b.n b.m) (not_false _ tests.2)

  word_is : (k : ℕ) → k < length ws → get_or ws k 0 ≡ image_word b k
  word_is k h =
      eqb-true (get_or ws k 0) (image_word (imaged ws) k) (and_left (eqb (get_or ws k 0) (image_word (imaged ws) k)) (not (zero_told (get_or ws k 0))) (all_due k h)) ∙ ap (λ x. image_word x k) is_b

  no_zero : (k : ℕ) → k < length ws → zero_told (get_or ws k 0) ≡ false
  no_zero k h = not_true (zero_told (get_or ws k 0)) (and_right (eqb (get_or ws k 0) (image_word (imaged ws) k)) (not (zero_told (get_or ws k 0))) (all_due k h))

  pub image_of_told : ws ≡ image (imaged ws)
  image_of_told =
      ext_get_or 0 ws (image b) (long ∙ sym (length_image b sized)) (λ k h. word_is k h ∙ sym (word_at b sized k (omega (arith, long))))
      ∙ ap image (sym is_b)

  module _ (s e : ℕ) (hs : between 1 b.n s ≡ true) (he : between 1 b.m e ≡ true) where
    cell_in : within (b.cell s e) ≡ true
    cell_in =
        let p = record_place b.m s e in
        let few = to_high 1 b.m e he in let short = to_high 1 48 b.m (entries_in b.kind b.n b.m sized) in
        let start : p ≡ p + 0 = omega arith in
        let inside : p < length ws = omega (arith, long, record_inside b.n b.m s hs e 0 he (omega arith)) in
        let is : get_or ws p 0 ≡ word 3 (e * 65536 + (b.cell s e).number) = word_is p inside ∙ ap (image_word b) start ∙ field_there b s hs e 0 he (omega arith) in
        let some = no_zero p inside in
        rw (hs, he) (told_in ws p e (omega arith) (rw (hs, he) at is) some)

  plain_b : Plain b
  plain_b = record {
    sized = sized;
    limits = cell_in;
    stations = λ s. plain_station (between 1 b.n s) (told_reach (get_or ws (station_place b.m s) 0));
    cells = λ s e h. rw h refl;
  }

  pub told_plain : Plain (imaged ws)
  told_plain = subst Plain (sym is_b) plain_b

pub clear_answer : (o : Option BankFault) → answered {A = Unit {0}} o tt ≡ Ok tt → o ≡ None
clear_answer o e = grind (arith, nat_tests)

-- The words of a new bank, put one behind the other.
use Rattle.std.proofs.Common.{◌≡◌, ℕ, zero, suc, ◌+◌, ◌-◌, ◌<◌, true, List, [], ◌∷◌, ◌++◌, map, length, get_or, None, Ok, sym, refl, ap, ◌∙◌, append-nil, append_assoc, arith}
use Rattle.std.proofs.lemmas.Bool.Decides.{nat_tests}
use Rattle.std.proofs.lemmas.List.FromFn.{map-range_with_len_more}
use Rattle.std.specs.List.{range_with_len}
use Rattle.banks.proofs.Ranges.{from_low}
use Rattle.banks.proofs.Makings.{is_new}
use Rattle.banks.specs.Limits.{allowed, between, first_record, within}
use Rattle.banks.specs.Making.{NewBank, new_bank, sizes_for}
use Rattle.banks.specs.Meaning.{Meaning}
use Rattle.banks.specs.declared.record.Record.{Record}
use Rattle.banks.specs.declared.record.Sizes.{Sizes}
use Rattle.values.specs.declared.value.Payloads.{Payloads}
use Rattle.words.proofs.Checks.{image_passes}
use Rattle.words.proofs.Images.{given_back, length_image}
use Rattle.words.proofs.Plains.{plain_new}
use Rattle.words.proofs.Spots.{field_there, station_there}
use Rattle.words.specs.Checking.{check_fault}
use Rattle.words.specs.Format.{image, image_word, imaged, record_place, record_word, size, station_place, station_word}
use Rattle.imagebank.specs.Whole.{record_words, whole}
use Rattle.imagebank.specs.Wholes.{whole_if}

abbrev pub words_before : Meaning → ℕ → List ℕ
words_before b k = map (image_word b) (range_with_len 0 k)

pub is_first : (r : Record) → r.number ≡ 1 → r ≡ first_record r.payloads
is_first r e = ap (λ k. record { number = k; payloads = r.payloads }) e

put : (b : Meaning) (ws : List ℕ) (k : ℕ) → ((f : ℕ) → f < length ws → image_word b (k + f) ≡ get_or ws f 0) → words_before b k ++ ws ≡ words_before b (k + length ws)
put b [] k h = let end : k ≡ k + 0 = omega arith in append-nil (words_before b k) ∙ ap (words_before b) end
put b (w ∷ ws) k h =
    let start : k ≡ k + 0 = omega arith in
    let end : k + 1 + length ws ≡ k + suc (length ws) = omega arith in
    let one : words_before b k ++ (w ∷ []) ≡ words_before b (k + 1) =
    ap (λ x. words_before b k ++ (x ∷ [])) (sym (h 0 (omega arith)) ∙ ap (image_word b) (sym start)) ∙ sym (map-range_with_len_more (image_word b) 0 k k (omega arith)) in
    sym (append_assoc (words_before b k) (w ∷ []) ws)
    ∙ ap (λ l. l ++ ws) one
    ∙ put b ws (k + 1) (λ f lt. let next : k + 1 + f ≡ k + suc f = omega arith in ap (image_word b) next ∙ h (suc f) (omega arith))
    ∙ ap (words_before b) end

module _ (kind : ℕ) (p : Payloads) (n m : ℕ) where
  abbrev b : Meaning
  b = new_bank kind p n m

  module _ (s : ℕ) (hs : between 1 n s ≡ true) where
    pub station_put : words_before b (station_place m s) ++ (station_word s true ∷ []) ≡ words_before b (record_place m s 1)
    station_put =
        let next : station_place m s + 1 ≡ record_place m s 1 = omega arith in
        put b (station_word s true ∷ []) (station_place m s) here ∙ ap (words_before b) next
      where
        here : (f : ℕ) → f < 1 → image_word b (station_place m s + f) ≡ get_or (station_word s true ∷ []) f 0
        here zero lt = let start : station_place m s + 0 ≡ station_place m s = omega arith in ap (image_word b) start ∙ station_there b s hs ∙ rw hs refl
        here (suc f) lt = absurd (omega arith)

    words_of : (e : ℕ) (r : Record) (f : ℕ) → f < 5 → record_word e r f ≡ get_or (record_words e r) f 0
    words_of e r zero lt = refl
    words_of e r (suc zero) lt = refl
    words_of e r (suc (suc zero)) lt = refl
    words_of e r (suc (suc (suc zero))) lt = refl
    words_of e r (suc (suc (suc (suc zero)))) lt = refl
    words_of e r (suc (suc (suc (suc (suc f))))) lt = absurd (omega arith)

    pub record_put : (e : ℕ) (r : Record) → between 1 m e ≡ true → r ≡ first_record p → words_before b (record_place m s e) ++ record_words e r ≡ words_before b (record_place m s (e + 1))
    record_put e r he is =
        let low = from_low 1 m e he in
        let next : record_place m s e + 5 ≡ record_place m s (e + 1) = omega arith in
        let cell : b.cell s e ≡ r = rw (hs, he) (sym is) in
        put b (record_words e r) (record_place m s e) (λ f lt. field_there b s hs e f he lt ∙ ap (λ x. record_word e x f) cell ∙ words_of e r f lt) ∙ ap (words_before b) next

    -- the words of the last record put
    pub last_put : (e : ℕ) (r : Record) → between 1 m e ≡ true → r ≡ first_record p → e ≡ m → (before ws after : List ℕ) → before ≡ words_before b (record_place m s e) → ws ≡ record_words e r → after ≡ before ++ ws → after ≡ words_before b (station_place m (s + 1))
    last_put e r he is last before ws after p q put =
        let low = from_low 1 n s hs in
        let next : s + 1 - 1 ≡ suc (s - 1) = omega arith in
        let end : record_place m s (e + 1) ≡ station_place m (s + 1) = rw (last, next) (omega arith) in
        put ∙ ap (λ l. l ++ ws) p ∙ ap (λ l. words_before b (record_place m s e) ++ l) q ∙ record_put e r he is ∙ ap (words_before b) end

  pub all_done : station_place m (n + 1) ≡ size n m
  all_done = let same : n + 1 - 1 ≡ n = omega arith in rw same refl

sizes_made : (kind n m : ℕ) (z : Sizes) → Ok z ≡ sizes_for kind n m → (allowed kind n m ≡ true) × (z ≡ record { kind = kind; stations = n; entries = m })
sizes_made kind n m z e = (grind (arith, nat_tests), grind (arith, nat_tests))

-- the image of a new bank, with the blank in every record
pub new_image : (kind n m : ℕ) (blank : Payloads) (z : Sizes) (r : Record) (ws : List ℕ) → Ok z ≡ sizes_for kind n m → r ≡ first_record blank → within r ≡ true → ws ≡ image (new_bank z.kind r.payloads z.stations z.entries) → (whole ws ≡ true) × (0 < length ws) × NewBank kind blank n m (imaged ws) None
new_image kind n m blank z r ws made is fits are =
    let sized = sizes_made kind n m z made in
    let b = new_bank kind blank n m in
    let image_is : ws ≡ image b = are ∙ ap (λ x. image (new_bank x.kind r.payloads x.stations x.entries)) sized.1 ∙ ap (λ x. image (new_bank kind x.payloads n m)) is in
    let plain = plain_new kind blank n m sized.0 (ap within (sym is) ∙ fits) in
    let long = ap length image_is ∙ length_image b sized.0 in
    (whole_if ws (ap check_fault image_is ∙ image_passes b plain), omega (arith, long), is_new kind blank n m _ _ sized.0 (ap imaged image_is ∙ given_back b plain) refl)

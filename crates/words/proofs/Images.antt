-- What an image tells is the bank that it is the image of.
use Rattle.std.proofs.Common.{◌≡◌, ℕ, ◌+◌, ◌*◌, ◌%◌, ◌<◌, ◌≤◌, Bool, true, false, cond, ◌&&◌, List, [], map, length, get_or, sym, refl, ap, ◌∙◌, arith, leb-true}
use mathlib.Core.Path.{fun_ext}
use Rattle.std.proofs.lemmas.Bool.Decides.{nat_tests}
use Rattle.std.proofs.lemmas.List.{ext_get_or}
use Rattle.std.proofs.lemmas.List.FromFn.{get_or-map-range_with_len, length-map-range_with_len}
use Rattle.std.specs.List.{range_with_len}
use Rattle.banks.proofs.Ranges.{and_left, and_right, entries_in, kind_in, stations_in, to_high}
use Rattle.banks.specs.Limits.{allowed, between, number_in, payload_in, payloads_in, within}
use Rattle.banks.specs.Making.{no_record, no_station_there}
use Rattle.banks.specs.Meaning.{Meaning}
use Rattle.banks.specs.declared.record.Record.{Record}
use Rattle.words.specs.Format.{head_word, image, image_word, imaged, payload_of, record_place, record_word, size, station_place, station_word, told_bank, told_entries, told_kind, told_reach, told_record, told_stations, word}
use Rattle.words.proofs.Spots.{Spot, field, field_there, head, record_inside, spot, station, station_inside, station_there}

-- a bank that an image can keep: no station is shut, and there is nothing outside its sizes
pub record Plain (b : Meaning) : Type 0 where
  pub sized : allowed b.kind b.n b.m ≡ true
  pub limits : (s e : ℕ) → between 1 b.n s ≡ true → between 1 b.m e ≡ true → within (b.cell s e) ≡ true
  pub stations : (s : ℕ) → b.station s ≡ cond (between 1 b.n s) (record { reach = (b.station s).reach; shut = false }) no_station_there
  pub cells : (s e : ℕ) → (between 1 b.n s && between 1 b.m e) ≡ false → b.cell s e ≡ no_record

pub plain_station : (a v : Bool) → cond a (record { reach = v; shut = false }) no_station_there ≡ cond a (record { reach = (cond a (record { reach = v; shut = false }) no_station_there).reach; shut = false }) no_station_there
plain_station a v = grind (arith, nat_tests)

module _ (b : Meaning) (ok : allowed b.kind b.n b.m ≡ true) where
  pub as_words : image b ≡ map (image_word b) (range_with_len 0 (size b.n b.m))
  as_words = ap (λ t. cond t (map (image_word b) (range_with_len 0 (size b.n b.m))) []) ok

  pub length_image : length (image b) ≡ size b.n b.m
  length_image = ap length as_words ∙ length-map-range_with_len (image_word b) 0 (size b.n b.m)

  pub word_at : (k : ℕ) → k < size b.n b.m → get_or (image b) k 0 ≡ image_word b k
  word_at k h = ap (λ l. get_or l k 0) as_words ∙ get_or-map-range_with_len (image_word b) 0 (size b.n b.m) k k 0 h (omega arith)

  pub station_read : (s : ℕ) → between 1 b.n s ≡ true → get_or (image b) (station_place b.m s) 0 ≡ station_word s (b.station s).reach
  station_read s hs = word_at (station_place b.m s) (station_inside b.n b.m s hs) ∙ station_there b s hs

  pub field_read : (s e f : ℕ) → between 1 b.n s ≡ true → between 1 b.m e ≡ true → f < 5 → get_or (image b) (record_place b.m s e + f) 0 ≡ record_word e (b.cell s e) f
  field_read s e f hs he hf = word_at (record_place b.m s e + f) (record_inside b.n b.m s hs e f he hf) ∙ field_there b s hs e f he hf

  -- words with these at their places are the image
  module _ (ws : List ℕ) (long : length ws ≡ size b.n b.m) (first : get_or ws 0 0 ≡ head_word b.kind b.n b.m)
      (stations : (s : ℕ) → between 1 b.n s ≡ true → get_or ws (station_place b.m s) 0 ≡ station_word s (b.station s).reach)
      (records : (s e f : ℕ) → between 1 b.n s ≡ true → between 1 b.m e ≡ true → f < 5 → get_or ws (record_place b.m s e + f) 0 ≡ record_word e (b.cell s e) f) where
    at_spot : (k : ℕ) → Spot b.n b.m k → get_or ws k 0 ≡ image_word b k
    at_spot k (head z) = ap (λ x. get_or ws x 0) z ∙ first ∙ sym (ap (image_word b) z)
    at_spot k (station s hs z) = ap (λ x. get_or ws x 0) z ∙ stations s hs ∙ sym (station_there b s hs) ∙ sym (ap (image_word b) z)
    at_spot k (field s e f hs he hf z) = ap (λ x. get_or ws x 0) z ∙ records s e f hs he hf ∙ sym (field_there b s hs e f he hf) ∙ sym (ap (image_word b) z)

    pub image_by : ws ≡ image b
    image_by = ext_get_or 0 ws (image b) (long ∙ sym length_image) (λ k h. at_spot k (spot b.n b.m k (omega (arith, long))) ∙ sym (word_at k (omega (arith, long))))

-- what the words tell
pub reach_told : (s : ℕ) (v : Bool) → told_reach (station_word s v) ≡ v
reach_told s v = grind (arith, nat_tests)

payload_told : (k p : ℕ) → payload_in p ≡ true → payload_of (word k p) ≡ p
payload_told k p h = let small = leb-true p 268435455 h in omega arith

module _ (r : Record) (ok : within r ≡ true) where
  number_told : (e : ℕ) → word 3 (e * 65536 + r.number) % 65536 ≡ r.number
  number_told e = let high = to_high 1 65535 r.number (and_left (number_in r.number) (payloads_in r.payloads) ok) in omega arith

  all_payloads : payloads_in r.payloads ≡ true
  all_payloads = and_right (number_in r.number) (payloads_in r.payloads) ok

  pub first_in : payload_in r.payloads.first ≡ true
  first_in = and_left _ _ all_payloads

  pub second_in : payload_in r.payloads.second ≡ true
  second_in = and_left _ _ (and_right (payload_in r.payloads.first) _ all_payloads)

  pub third_in : payload_in r.payloads.third ≡ true
  third_in = and_left _ _ (and_right (payload_in r.payloads.second) _ (and_right (payload_in r.payloads.first) _ all_payloads))

  pub fourth_in : payload_in r.payloads.fourth ≡ true
  fourth_in = and_right (payload_in r.payloads.third) _ (and_right (payload_in r.payloads.second) _ (and_right (payload_in r.payloads.first) _ all_payloads))

  pub record_told : (ws : List ℕ) (k e : ℕ) → ((f : ℕ) → f < 5 → get_or ws (k + f) 0 ≡ record_word e r f) → told_record ws k ≡ r
  record_told ws k e there =
      let start : k + 0 ≡ k = omega arith in
      let w0 : get_or ws k 0 ≡ word 3 (e * 65536 + r.number) = ap (λ i. get_or ws i 0) (sym start) ∙ there 0 (omega arith) in
      let w1 : get_or ws (k + 1) 0 ≡ word 4 r.payloads.first = there 1 (omega arith) in
      let w2 : get_or ws (k + 2) 0 ≡ word 5 r.payloads.second = there 2 (omega arith) in
      let w3 : get_or ws (k + 3) 0 ≡ word 6 r.payloads.third = there 3 (omega arith) in
      let w4 : get_or ws (k + 4) 0 ≡ word 7 r.payloads.fourth = there 4 (omega arith) in
      rw (w0, w1, w2, w3, w4, number_told e, payload_told 4 r.payloads.first first_in, payload_told 5 r.payloads.second second_in, payload_told 6 r.payloads.third third_in, payload_told 7 r.payloads.fourth fourth_in) refl

module _ (b : Meaning) (plain : Plain b) where
  station_told : (s : ℕ) (a : Bool) → between 1 b.n s ≡ a → cond a (record { reach = told_reach (get_or (image b) (station_place b.m s) 0); shut = false }) no_station_there ≡ cond a (record { reach = (b.station s).reach; shut = false }) no_station_there
  station_told s true h =
      ap (λ v. record { reach = v; shut = false })
      (ap told_reach (station_read b plain.sized s h) ∙ reach_told s (b.station s).reach)
  station_told s false h = refl

  cell_told : (s e : ℕ) (a c : Bool) → between 1 b.n s ≡ a → between 1 b.m e ≡ c → cond (a && c) (told_record (image b) (record_place b.m s e)) no_record ≡ b.cell s e
  cell_told s e true true p q =
      record_told (b.cell s e) (plain.limits s e p q) (image b) (record_place b.m s e) e
      (λ f h. field_read b plain.sized s e f p q h)
  cell_told s e true false p q = sym (plain.cells s e (ap (λ t. t && between 1 b.m e) p ∙ q))
  cell_told s e false c p q = sym (plain.cells s e (ap (λ t. t && between 1 b.m e) p))

  all_told : told_bank b.kind b.n b.m (image b) ≡ b
  all_told =
      ap (λ f. record { kind = b.kind; n = b.n; m = b.m; station = f; cell = (told_bank b.kind b.n b.m (image b)).cell })
      (fun_ext (λ s. station_told s (between 1 b.n s) refl ∙ sym (plain.stations s)))
      ∙ ap (λ f. record { kind = b.kind; n = b.n; m = b.m; station = b.station; cell = f })
      (fun_ext (λ s. fun_ext (λ e. cell_told s e (between 1 b.n s) (between 1 b.m e) refl refl)))

  -- the first word
  pub small : (b.kind ≤ 4095) × (b.n ≤ 64) × (b.m ≤ 48)
  small = (
    to_high 1 4095 b.kind (kind_in b.kind b.n b.m plain.sized),
    to_high 1 64 b.n (stations_in b.kind b.n b.m plain.sized),
    to_high 1 48 b.m (entries_in b.kind b.n b.m plain.sized),
  )

  pub kind_told : told_kind (head_word b.kind b.n b.m) ≡ b.kind
  kind_told = omega (arith, small.0, small.1, small.2)

  pub stations_told : told_stations (head_word b.kind b.n b.m) ≡ b.n
  stations_told = omega (arith, small.0, small.1, small.2)

  pub entries_told : told_entries (head_word b.kind b.n b.m) ≡ b.m
  entries_told = omega (arith, small.0, small.1, small.2)

  -- an image gives back the bank
  pub given_back : imaged (image b) ≡ b
  given_back =
      let w = head_word b.kind b.n b.m in
      let ws = map (image_word b) (range_with_len 0 (size b.n b.m)) in
      ap imaged (as_words b plain.sized)
      ∙ ap (λ k. told_bank k (told_stations w) (told_entries w) ws) kind_told
      ∙ ap (λ n. told_bank b.kind n (told_entries w) ws) stations_told
      ∙ ap (λ m. told_bank b.kind b.n m ws) entries_told
      ∙ ap (told_bank b.kind b.n b.m) (sym (as_words b plain.sized))
      ∙ all_told

-- The places of an image: which word stands where.
use Rattle.std.proofs.Common.{◌≡◌, ℕ, zero, suc, ◌+◌, ◌-◌, ◌*◌, ◌/◌, ◌%◌, ◌<◌, ◌≤◌, true, refl, ap, ◌∙◌, subst, mod-lt, div-lt_iff_lt-mul, div-add-mod', arith}
use lib.Arith.{digits_div, digits_lt, digits_mod}
use Rattle.banks.proofs.Ranges.{from_low, is_between, to_high}
use Rattle.banks.specs.Limits.{between}
use Rattle.banks.specs.Meaning.{Meaning}
use Rattle.words.specs.Format.{block, block_word, image_word, record_place, record_word, size, station_place, station_word}

-- what stands at the place k of an image
pub data Spot (n m k : ℕ) : Type 0 where
  head : k ≡ 0 → Spot n m k
  station : (s : ℕ) → between 1 n s ≡ true → k ≡ station_place m s → Spot n m k
  field : (s e f : ℕ) → between 1 n s ≡ true → between 1 m e ≡ true → f < 5 → k ≡ record_place m s e + f → Spot n m k

-- a place of a block that is not its first
in_block : (n m i o : ℕ) → i < n → o < m * 5 → Spot n m (suc (i * block m + suc o))
in_block n m i o hi ho =
    field (i + 1) (o / 5 + 1) (o % 5) (is_between 1 n (i + 1) (omega arith) (omega arith)) (is_between 1 m (o / 5 + 1) (omega arith) (omega arith)) (omega arith)
    (let one : i + 1 - 1 ≡ i = omega arith in let two : o / 5 + 1 - 1 ≡ o / 5 = omega arith in rw (one, two) (omega arith))

by_offset : (n m i o : ℕ) → i < n → o < block m → Spot n m (suc (i * block m + o))
by_offset n m i zero hi ho =
    station (i + 1) (is_between 1 n (i + 1) (omega arith) (omega arith)) (let one : i + 1 - 1 ≡ i = omega arith in rw one (omega arith))
by_offset n m i (suc o) hi ho = in_block n m i o hi (omega arith)

pub spot : (n m k : ℕ) → k < size n m → Spot n m k
spot n m zero h = head refl
spot n m (suc j) h =
    let low : j / block m < n = (div-lt_iff_lt-mul {k = block m} {x = j} {y = n} (omega arith)).1 (omega arith) in
    subst (Spot n m) (ap suc (div-add-mod' j (block m))) (by_offset n m (j / block m) (j % block m) low (mod-lt j (omega arith)))

-- the places are places of the image
module _ (n m s : ℕ) (hs : between 1 n s ≡ true) where
  pub station_inside : station_place m s < size n m
  station_inside =
      let a = from_low 1 n s hs in let b = to_high 1 n s hs in
      let lt = digits_lt {q = s - 1} {m = n} {r = 0} {c = block m} (omega arith) (omega arith) in omega arith

  pub record_inside : (e f : ℕ) → between 1 m e ≡ true → f < 5 → record_place m s e + f < size n m
  record_inside e f he hf =
      let a = from_low 1 n s hs in let b = to_high 1 n s hs in let c = from_low 1 m e he in let d = to_high 1 m e he in
      let lt = digits_lt {q = s - 1} {m = n} {r = suc ((e - 1) * 5) + f} {c = block m} (omega arith) (omega arith) in omega arith

-- the digits of a place: of which station it is, and where in its block; of which record, and which of its words
module _ {A : Type 0} (x : ℕ → ℕ → A) where
  pub by_digits : (m s o : ℕ) → 1 ≤ s → o < block m → x (((s - 1) * block m + o) / block m + 1) (((s - 1) * block m + o) % block m) ≡ x s o
  by_digits m s o low h = let same : s - 1 + 1 ≡ s = omega arith in rw (digits_div (s - 1) h, digits_mod (s - 1) h, same) refl

  pub by_fields : (e f : ℕ) → 1 ≤ e → f < 5 → x (((e - 1) * 5 + f) / 5 + 1) (((e - 1) * 5 + f) % 5) ≡ x e f
  by_fields e f low h =
      let quotient : ((e - 1) * 5 + f) / 5 + 1 ≡ e = omega arith in
      let left : ((e - 1) * 5 + f) % 5 ≡ f = omega arith in
      rw (quotient, left) refl

-- the words there
module _ (b : Meaning) (s : ℕ) (hs : between 1 b.n s ≡ true) where
  low : 1 ≤ s
  low = from_low 1 b.n s hs

  abbrev word_in : ℕ → ℕ → ℕ
  word_in t o = block_word t (b.station t) (b.cell t) o

  pub station_there : image_word b (station_place b.m s) ≡ station_word s (b.station s).reach
  station_there = let zeroed : (s - 1) * block b.m ≡ (s - 1) * block b.m + 0 = omega arith in ap (λ k. image_word b (suc k)) zeroed ∙ by_digits word_in b.m s 0 low (omega arith)

  pub field_there : (e f : ℕ) → between 1 b.m e ≡ true → f < 5 → image_word b (record_place b.m s e + f) ≡ record_word e (b.cell s e) f
  field_there e f he hf =
      let one = from_low 1 b.m e he in let high = to_high 1 b.m e he in
      let at : record_place b.m s e + f ≡ suc ((s - 1) * block b.m + suc ((e - 1) * 5 + f)) = omega arith in
      ap (image_word b) at ∙ by_digits word_in b.m s (suc ((e - 1) * 5 + f)) low (omega arith) ∙ by_fields (λ d g. record_word d (b.cell s d) g) e f one hf

-- What a change of a bank does to its image.
use Rattle.std.proofs.Common.{◌≡◌, ℕ, zero, suc, ◌+◌, ◌-◌, ◌*◌, ◌<◌, Bool, true, false, cond, ◌&&◌, eqb, ◌≢◌, List, length, get_or, set, sym, refl, ◌∙◌, arith, length-set, get_or-set_other, eqb-true}
use borrow.Author.Tests.{eqb-false}
use Rattle.std.proofs.lemmas.Bool.Decides.{nat_tests}
use Rattle.std.proofs.lemmas.Grind.{get_or-set_at}
use Rattle.banks.proofs.Ranges.{digits_same, from_low, to_high}
use Rattle.banks.specs.Calls.{with_cell, with_reach}
use Rattle.banks.specs.Limits.{allowed, between}
use Rattle.banks.specs.Meaning.{Meaning}
use Rattle.banks.specs.declared.record.Record.{Record}
use Rattle.words.specs.Format.{block, five, image, record_place, record_word, size, station_place, station_word}
use Rattle.words.proofs.Images.{field_read, image_by, length_image, station_read, word_at}
use Rattle.words.proofs.Spots.{record_inside, station_inside}

-- places are apart
module _ (n m s : ℕ) (hs : between 1 n s ≡ true) where
  station_same : (t : ℕ) → between 1 n t ≡ true → station_place m t ≡ station_place m s → t ≡ s
  station_same t ht q =
      let a = from_low 1 n s hs in let b = from_low 1 n t ht in
      let same = digits_same (block m) (t - 1) 0 (s - 1) 0 (omega arith) (omega arith) (omega (arith, q)) in
      omega (arith, same.0)

  module _ (e f : ℕ) (he : between 1 m e ≡ true) (hf : f < 5) where
    not_station : (t : ℕ) → between 1 n t ≡ true → station_place m t ≡ record_place m s e + f → ⊥
    not_station t ht q =
        let low = from_low 1 m e he in let high = to_high 1 m e he in
        let same = digits_same (block m) (t - 1) 0 (s - 1) (suc ((e - 1) * 5 + f)) (omega arith) (omega arith) (omega (arith, q)) in
        omega (arith, same.1)

    field_same : (t d g : ℕ) → between 1 n t ≡ true → between 1 m d ≡ true → g < 5 → record_place m t d + g ≡ record_place m s e + f → (t ≡ s) × (d ≡ e) × (g ≡ f)
    field_same t d g ht hd hg q =
        let a = from_low 1 n s hs in let b = from_low 1 n t ht in
        let c = from_low 1 m e he in let x = to_high 1 m e he in let y = from_low 1 m d hd in let z = to_high 1 m d hd in
        let same = digits_same (block m) (t - 1) (suc ((d - 1) * 5 + g)) (s - 1) (suc ((e - 1) * 5 + f)) (omega arith) (omega arith) (omega (arith, q)) in
        (omega (arith, same.0), omega (arith, same.1), omega (arith, same.1))

-- a station made in reach, or away
module _ (b : Meaning) (ok : allowed b.kind b.n b.m ≡ true) (s : ℕ) (hs : between 1 b.n s ≡ true) (v : Bool) where
  abbrev ws : List ℕ
  ws = set (image b) (station_place b.m s) (station_word s v)

  long : length ws ≡ size b.n b.m
  long = length-set (image b) (station_place b.m s) (station_word s v) ∙ length_image b ok

  stations : (t : ℕ) → between 1 b.n t ≡ true → get_or ws (station_place b.m t) 0 ≡ station_word t ((with_reach b s v).station t).reach
  stations t ht =
      let read = station_read b ok t ht in
      let apart = station_same b.n b.m s hs t ht in
      let inside = station_inside b.n b.m s hs in
      let size = length_image b ok in
      grind (arith, nat_tests, get_or-set_at, get_or-set_other)

  pub image_reached : ws ≡ image (with_reach b s v)
  image_reached =
      image_by (with_reach b s v) ok ws long
      (get_or-set_other (image b) (station_place b.m s) 0 (station_word s v) 0 (λ z. omega (arith, z)) ∙ word_at b ok 0 (omega arith))
      stations
      (λ t d g ht hd hg. get_or-set_other (image b) (station_place b.m s) (record_place b.m t d + g) (station_word s v) 0 (λ z. not_station b.n b.m t ht d g hd hg s hs (sym z)) ∙ field_read b ok t d g ht hd hg)

-- five words in a row replaced
module _ (ws : List ℕ) (p : ℕ) (x : ℕ → ℕ) where
  pub five_long : length (five ws p x) ≡ length ws
  five_long = length-set _ (p + 4) (x 4) ∙ length-set _ (p + 3) (x 3) ∙ length-set _ (p + 2) (x 2) ∙ length-set _ (p + 1) (x 1) ∙ length-set ws p (x 0)

  five_other : (k : ℕ) → ((f : ℕ) → f < 5 → k ≢ p + f) → get_or (five ws p x) k 0 ≡ get_or ws k 0
  five_other k apart =
      let n0 = apart 0 (omega arith) in let n1 = apart 1 (omega arith) in let n2 = apart 2 (omega arith) in let n3 = apart 3 (omega arith) in let n4 = apart 4 (omega arith) in
      grind (arith, get_or-set_other)

  five_here : p + 4 < length ws → (f : ℕ) → f < 5 → get_or (five ws p x) (p + f) 0 ≡ x f
  five_here inside zero h = grind (arith, get_or-set_at, get_or-set_other, length-set)
  five_here inside (suc zero) h = grind (arith, get_or-set_at, get_or-set_other, length-set)
  five_here inside (suc (suc zero)) h = grind (arith, get_or-set_at, get_or-set_other, length-set)
  five_here inside (suc (suc (suc zero))) h = grind (arith, get_or-set_at, get_or-set_other, length-set)
  five_here inside (suc (suc (suc (suc zero)))) h = grind (arith, get_or-set_at, get_or-set_other, length-set)
  five_here inside (suc (suc (suc (suc (suc k))))) h = absurd (omega arith)

-- a record replaced
module _ (b : Meaning) (ok : allowed b.kind b.n b.m ≡ true) (s e : ℕ) (hs : between 1 b.n s ≡ true) (he : between 1 b.m e ≡ true) (r : Record) where
  abbrev put : List ℕ
  put = five (image b) (record_place b.m s e) (record_word e r)

  elsewhere : (k : ℕ) → ((f : ℕ) → f < 5 → k ≢ record_place b.m s e + f) → get_or put k 0 ≡ get_or (image b) k 0
  elsewhere k apart = five_other (image b) (record_place b.m s e) (record_word e r) k apart

  records_by : (t d g : ℕ) → between 1 b.n t ≡ true → between 1 b.m d ≡ true → g < 5 → (x y : Bool) → eqb t s ≡ x → eqb d e ≡ y → get_or put (record_place b.m t d + g) 0 ≡ record_word d (cond (x && y) r (b.cell t d)) g
  records_by t d g ht hd hg true true p q =
      let inside : record_place b.m s e + 4 < length (image b) = omega (arith, length_image b ok, record_inside b.n b.m s hs e 4 he (omega arith)) in
      rw (eqb-true t s p, eqb-true d e q) (five_here (image b) (record_place b.m s e) (record_word e r) inside g hg)
  records_by t d g ht hd hg true false p q =
      elsewhere (record_place b.m t d + g) (λ f h z. eqb-false d e q (field_same b.n b.m s hs e f he h t d g ht hd hg z).1) ∙ field_read b ok t d g ht hd hg
  records_by t d g ht hd hg false y p q =
      elsewhere (record_place b.m t d + g) (λ f h z. eqb-false t s p (field_same b.n b.m s hs e f he h t d g ht hd hg z).0) ∙ field_read b ok t d g ht hd hg

  pub image_stored : put ≡ image (with_cell b s e r)
  image_stored =
      image_by (with_cell b s e r) ok put (five_long (image b) (record_place b.m s e) (record_word e r) ∙ length_image b ok)
      (elsewhere 0 (λ f h z. omega (arith, z)) ∙ word_at b ok 0 (omega arith))
      (λ t ht. elsewhere (station_place b.m t) (λ f h. not_station b.n b.m s hs e f he h t ht) ∙ station_read b ok t ht)
      (λ t d g ht hd hg. records_by t d g ht hd hg (eqb t s) (eqb d e) refl refl)

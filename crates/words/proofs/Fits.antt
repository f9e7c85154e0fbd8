-- Whether a word is due at its place shows by the word alone.
use Rattle.std.proofs.Common.{◌≡◌, ℕ, zero, suc, ◌+◌, ◌-◌, ◌*◌, ◌%◌, ◌<◌, ◌≤◌, Bool, true, false, cond, not, ◌&&◌, eqb, List, map, length, get_or, Some, None, Option, sym, refl, ap, ◌∙◌, subst, arith, eqb-true}
use borrow.Author.Tests.{eqb-false}
use Rattle.std.proofs.lemmas.Bool.Decides.{nat_tests}
use Rattle.std.specs.List.{range_with_len}
use Rattle.banks.proofs.Ranges.{and_right, entries_in, from_low, stations_in, to_high}
use Rattle.banks.specs.Calls.{Cause, first}
use Rattle.banks.specs.Limits.{allowed, between}
use Rattle.banks.specs.Meaning.{Meaning}
use Rattle.banks.specs.declared.fault.BankFault.{BankFault}
use Rattle.banks.specs.declared.fault.BankFault.TheVariants.{Word}
use Rattle.words.specs.Checking.{Headed, bad_word, check_fault, due}
use Rattle.words.specs.Format.{block, image_word, imaged, kind_of, payload_of, record_place, record_word, size, station_place, station_word, told_bank, told_entries, told_kind, told_reach, told_record, told_stations, word}
use Rattle.words.specs.Spots.{AllFit, IsFirstWrong, fits, right_at, spot_at, spot_in_block, spot_in_record}
use Rattle.words.specs.declared.layout.Spot.TheVariants.{Number, Station}
use Rattle.words.proofs.Checks.{all_clear, as_told, not_false}
use Rattle.words.proofs.Spots.{Spot, by_digits, by_fields, field, field_there, head, spot, station, station_there}

abbrev no_zero : ℕ → Bool
no_zero w = not (eqb (kind_of w) 3 && eqb (w % 65536) 0)

due_station : (s w : ℕ) → s ≤ 64 → (eqb w (station_word s (told_reach w)) && no_zero w) ≡ fits (Station s) w
due_station s w h = grind (arith, nat_tests)

due_payload : (k w : ℕ) → 4 ≤ k → (eqb w (word k (payload_of w)) && no_zero w) ≡ eqb (kind_of w) k
due_payload k w h = grind (arith, nat_tests)

due_number : (e w : ℕ) → e ≤ 48 → (eqb w (word 3 (e * 65536 + w % 65536)) && no_zero w) ≡ fits (Number e) w
due_number e w h = grind (arith, nat_tests)

module _ (ws : List ℕ) (p : ℕ) where
  abbrev at : ℕ → ℕ
  at k = get_or ws k 0

  due_field : (e f : ℕ) → e ≤ 48 → f < 5 → (eqb (at (p + f)) (record_word e (told_record ws p) f) && no_zero (at (p + f))) ≡ fits (spot_in_record e f) (at (p + f))
  due_field e zero few h = let start : p + 0 ≡ p = omega arith in rw start (due_number e (at p) few)
  due_field e (suc zero) few h = due_payload 4 (at (p + 1)) (omega arith)
  due_field e (suc (suc zero)) few h = due_payload 5 (at (p + 2)) (omega arith)
  due_field e (suc (suc (suc zero))) few h = due_payload 6 (at (p + 3)) (omega arith)
  due_field e (suc (suc (suc (suc zero)))) few h = due_payload 7 (at (p + 4)) (omega arith)
  due_field e (suc (suc (suc (suc (suc f))))) few h = absurd (omega arith)

-- what stands at a place
module _ (m s : ℕ) (low : 1 ≤ s) where
  spot_of_station : spot_at m (station_place m s - 1) ≡ Station s
  spot_of_station = let place : station_place m s - 1 ≡ (s - 1) * block m + 0 = omega arith in ap (spot_at m) place ∙ by_digits spot_in_block m s 0 low (omega arith)

  spot_of_field : (e f : ℕ) → between 1 m e ≡ true → f < 5 → spot_at m (record_place m s e + f - 1) ≡ spot_in_record e f
  spot_of_field e f he hf =
      let one = from_low 1 m e he in let high = to_high 1 m e he in
      let place : record_place m s e + f - 1 ≡ (s - 1) * block m + suc ((e - 1) * 5 + f) = omega arith in
      ap (spot_at m) place ∙ by_digits spot_in_block m s (suc ((e - 1) * 5 + f)) low (omega arith) ∙ by_fields spot_in_record e f one hf

-- the first cause that is met
found_by : (f : ℕ → Cause) (a k : ℕ) (rest : Option BankFault) (c : Bool) → eqb k a ≡ c → a ≤ k → (a < k → (f a).met ≡ false) → (f k).met ≡ true → (a < k → rest ≡ Some (f k).told) → cond (f a).met (Some (f a).told) rest ≡ Some (f k).told
found_by f a k rest true q low before met later = let same = eqb-true k a q in rw (same, rw same at met) refl
found_by f a k rest false q low before met later = let ne = eqb-false k a q in let lt : a < k = omega arith in rw (before lt) (later lt)

found_at : (f : ℕ → Cause) (a n k : ℕ) → a ≤ k → k < a + n → ((j : ℕ) → a ≤ j → j < k → (f j).met ≡ false) → (f k).met ≡ true → first (map f (range_with_len a n)) ≡ Some (f k).told
found_at f a zero k low high before met = absurd (omega arith)
found_at f a (suc n) k low high before met =
    found_by f a k (first (map f (range_with_len (a + 1) n))) (eqb k a) refl low (λ lt. before a (omega arith) lt) met
    (λ lt. found_at f (a + 1) n k (omega arith) (omega arith) (λ j l h. before j (omega arith) h) met)

-- words whose first word and length are right
module _ (ws : List ℕ) (headed : Headed ws) where
  abbrev b : Meaning
  b = told_bank (told_kind (get_or ws 0 0)) (told_stations (get_or ws 0 0)) (told_entries (get_or ws 0 0)) ws

  is_told : imaged ws ≡ b
  is_told = as_told ws headed.0

  well : (eqb (kind_of (get_or ws 0 0)) 1 && allowed b.kind b.n b.m) ≡ true
  well = not_false _ headed.1

  ok : allowed b.kind b.n b.m ≡ true
  ok = and_right _ _ well

  long : length ws ≡ size b.n b.m
  long = eqb-true (length ws) (size b.n b.m) (not_false _ headed.2)

  few : b.n ≤ 64
  few = to_high 1 64 b.n (stations_in b.kind b.n b.m ok)

  short : b.m ≤ 48
  short = to_high 1 48 b.m (entries_in b.kind b.n b.m ok)

  due_by : (k w : ℕ) → image_word b k ≡ w → due ws k ≡ (eqb (get_or ws k 0) w && no_zero (get_or ws k 0))
  due_by k w e = rw (is_told, e) refl

  due_at : (k : ℕ) → 0 < k → Spot b.n b.m k → due ws k ≡ right_at b.m ws k
  due_at k some (head e) = absurd (omega (arith, e))
  due_at k some (station s hs e) =
      let p = station_place b.m s in
      let w : ℕ = get_or ws p 0 in
      let told : image_word b p ≡ station_word s (told_reach w) = station_there b s hs ∙ rw hs refl in
      ap (λ x. due ws x) e
      ∙ due_by p (station_word s (told_reach w)) told
      ∙ due_station s w (omega (arith, to_high 1 b.n s hs, few))
      ∙ ap (λ x. fits x w) (sym (spot_of_station b.m s (from_low 1 b.n s hs)))
      ∙ ap (right_at b.m ws) (sym e)
  due_at k some (field s d f hs hd hf e) =
      let p = record_place b.m s d in
      let told : image_word b (p + f) ≡ record_word d (told_record ws p) f = field_there b s hs d f hd hf ∙ rw (hs, hd) refl in
      ap (λ x. due ws x) e
      ∙ due_by (p + f) (record_word d (told_record ws p) f) told
      ∙ due_field ws p d f (omega (arith, to_high 1 b.m d hd, short)) hf
      ∙ ap (λ x. fits x (get_or ws (p + f) 0)) (sym (spot_of_field b.m s (from_low 1 b.n s hs) d f hd hf))
      ∙ ap (right_at b.m ws) (sym e)

  due_first : due ws 0 ≡ true
  due_first = rw is_told (grind (arith, nat_tests))

  due_is : (k : ℕ) → 0 < k → k < length ws → due ws k ≡ right_at b.m ws k
  due_is k h lt = due_at k h (spot b.n b.m k (omega (arith, long)))

  due_below : (i : ℕ) → i ≤ length ws → AllFit b.m ws i → (k : ℕ) → k < i → due ws k ≡ true
  due_below i h fit zero lt = due_first
  due_below i h fit (suc k) lt = due_is (suc k) (omega arith) (omega arith) ∙ fit (suc k) (omega arith) lt

  rest : check_fault ws ≡ first (map (bad_word ws) (range_with_len 0 (length ws)))
  rest = rw (headed.0, headed.1, headed.2) refl

  -- the entries that the words tell
  module _ (m : ℕ) (is : m ≡ (imaged ws).m) where
    same : m ≡ b.m
    same = is ∙ ap (λ x. x.m) is_told

    pub no_fault : AllFit m ws (length ws) → check_fault ws ≡ None
    no_fault fit =
        rest ∙ all_clear (bad_word ws) 0 (length ws) (λ k l h. ap not (due_below (length ws) (omega arith) (subst (λ x. AllFit x ws (length ws)) same fit) k (omega arith)))

    pub word_fault : (i : ℕ) → IsFirstWrong m ws i → check_fault ws ≡ Some (Word i)
    word_fault i is_first =
        let wrong = subst (λ x. IsFirstWrong x ws i) same is_first in
        rest
        ∙ found_at (bad_word ws) 0 (length ws) i (omega arith) (omega arith) (λ k l h. ap not (due_below i (omega arith) wrong.3 k h)) (ap not (due_is i (omega arith) wrong.1 ∙ wrong.2))

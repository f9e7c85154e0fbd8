-- Numbers of copies, and the marks that name them.
use Rattle.std.proofs.Common.{◌≡◌, ℕ, zero, suc, ◌+◌, ◌-◌, ◌<◌, ◌≤◌, Bool, true, false, cond, not, ◌||◌, T, eqb, ◌==◌, ◌≢◌, List, [], ◌∷◌, ◌++◌, length, get_or, take, drop, map, set, Some, None, filter, sym, refl, ap, ◌∙◌, subst, ⊎_elim, add-one, arith, eqb→eq, length-take-le, drop-cons, get_or-set_other, get_or-take, get_or-set_same}
use lib.Dec.{eqb_refl}
use Rattle.std.specs.List.{range_with_len, zip}
use Rattle.std.proofs.lemmas.Bool.{cases_lt}
use Rattle.std.proofs.lemmas.Bool.Decides.{nat_tests}
use Rattle.std.proofs.lemmas.List.FromFn.{get_or-map-range_with_len, length-map-range_with_len}
use Rattle.std.proofs.lemmas.List.{drop_all, drop_more, ext_get_or, take_more}
use Rattle.families.specs.Copies.{among, is_copy, marked}
use Rattle.choosing.specs.Numbers.{named, no_copy, reach_without}

marked_at : (ms : List ℕ) (i n : ℕ) → i < n → marked n ms (1 + i) ≡ not (get_or ms i 0 == 0)
marked_at ms i n here = grind (arith, nat_tests)

kept : (b : Bool) (c mark : ℕ) (ps : List (ℕ × ℕ)) (cs : List ℕ) → map (λ p. p.0) ps ≡ cs → map (λ p. p.0) (cond b ((c, mark) ∷ ps) ps) ≡ cond b (c ∷ cs) cs
kept true c mark ps cs e = ap (λ l. c ∷ l) e
kept false c mark ps cs e = e

-- what is named from the copy after the first i on
numbers_from : (ms : List ℕ) (m i : ℕ) → length ms ≤ i + m → map (λ p. p.0) (filter (λ p. not (p.1 == 0)) (zip (range_with_len (1 + i) m) (drop i ms))) ≡ filter (marked (length ms) ms) (range_with_len (1 + i) (length ms - i))
numbers_from ms zero i few = let none : length ms - i ≡ 0 = omega arith in rw none refl
numbers_from ms (suc m) i few =
    ⊎_elim
    (λ here.
    let more : length ms - i ≡ suc (length ms - (i + 1)) = omega arith in
    let next : 1 + i + 1 ≡ 1 + (i + 1) = omega arith in
    let fits : length ms ≤ i + 1 + m = omega arith in
    rw (drop_more ms i 0 here, more, next, marked_at ms i (length ms) here)
    (kept (not (get_or ms i 0 == 0)) (1 + i) (get_or ms i 0) _ _ (numbers_from ms m (i + 1) fits)))
    (λ all. let none : length ms - i ≡ 0 = omega arith in rw (drop_all i ms all, none) refl)
    (cases_lt i (length ms))

pub numbers_named : (m : ℕ) (ms : List ℕ) → length ms ≤ m → map (λ p. p.0) (filter (λ p. not (p.1 == 0)) (zip (range_with_len 1 m) ms)) ≡ named (length ms) ms
numbers_named m ms few = let all : length ms - 0 ≡ length ms = omega arith in let fits : length ms ≤ 0 + m = omega arith in rw all at (numbers_from ms m 0 fits)

or_true : (b : Bool) → (b || true) ≡ true
or_true true = refl
or_true false = refl

or_false : (b : Bool) → (b || false) ≡ b
or_false true = refl
or_false false = refl

not_eqb : (x y : ℕ) → eqb x y ≡ false → x ≡ y → ⊥
not_eqb x y e same = subst T (ap (eqb x) same ∙ e) (eqb_refl x)

-- the mark at k, once that of the copy x is 0
set_mark : (reach : List ℕ) (x k : ℕ) (seen : Bool) → length reach ≡ 64 → 0 < x → k < 64 → get_or reach k 0 ≡ cond seen 0 1 → (b : Bool) → eqb x (k + 1) ≡ b → get_or (set reach (x - 1) 0) k 0 ≡ cond (seen || b) 0 1
set_mark reach x k seen long low lt old true e =
    let same : x - 1 ≡ k = omega (arith, eqb→eq x (k + 1) (rw e tt)) in
    ap (λ j. get_or (set reach j 0) k 0) same ∙ get_or-set_same reach k 0 0 (omega (arith, long)) ∙ ap (λ b. cond b 0 1) (sym (or_true seen))
set_mark reach x k seen long low lt old false e =
    let other : k ≢ x - 1 = λ q. not_eqb x (k + 1) e (omega (arith, q)) in
    get_or-set_other reach (x - 1) k 0 0 other ∙ old ∙ ap (λ b. cond b 0 1) (sym (or_false seen))

among_push : (xs : List ℕ) (x c : ℕ) → among (xs ++ (x ∷ [])) c ≡ (among xs c || eqb x c)
among_push [] x c = grind (arith, nat_tests)
among_push (y ∷ xs) x c = let h = among_push xs x c in grind (arith, nat_tests)

-- the marks without the copies so far, and one copy more
module _ (n : ℕ) (away : List ℕ) (i : ℕ) (here : i < length away) where
  among_more : (c : ℕ) → among (take (i + 1) away) c ≡ (among (take i away) c || eqb (get_or away i 0) c)
  among_more c = ap (λ l. among l c) (take_more away i 0 here) ∙ among_push (take i away) (get_or away i 0) c

  pub mark_more : (reach : List ℕ) → length reach ≡ 64 → 0 < get_or away i 0 → get_or away i 0 ≤ 64 → ((k : ℕ) → k < 64 → get_or reach k 0 ≡ cond (among (take i away) (k + 1)) 0 1) → (k : ℕ) → k < 64 → get_or (set reach (get_or away i 0 - 1) 0) k 0 ≡ cond (among (take (i + 1) away) (k + 1)) 0 1
  mark_more reach long low high old k lt =
      set_mark reach (get_or away i 0) k (among (take i away) (k + 1)) long low lt (old k lt) (eqb (get_or away i 0) (k + 1)) refl ∙ ap (λ a. cond a 0 1) (sym (among_more (k + 1)))

  left : no_copy n (drop i away) ≡ cond (is_copy n (get_or away i 0)) (no_copy n (drop (i + 1) away)) (Some (get_or away i 0))
  left = rw (add-one i, drop-cons away i 0 here) refl

  pub copy_passed : no_copy n away ≡ no_copy n (drop i away) → 0 < get_or away i 0 → get_or away i 0 ≤ n → no_copy n away ≡ no_copy n (drop (i + 1) away)
  copy_passed all low high =
      let b : is_copy n (get_or away i 0) ≡ true = grind (arith, nat_tests) in
      all ∙ left ∙ ap (λ b. cond b (no_copy n (drop (i + 1) away)) (Some (get_or away i 0))) b

  pub copy_missing : no_copy n away ≡ no_copy n (drop i away) → (0 < get_or away i 0 → get_or away i 0 ≤ n → ⊥) → no_copy n away ≡ Some (get_or away i 0)
  copy_missing all out =
      let b : is_copy n (get_or away i 0) ≡ false = grind (arith, nat_tests) in
      all ∙ left ∙ ap (λ b. cond b (no_copy n (drop (i + 1) away)) (Some (get_or away i 0))) b

pub copies_end : (n : ℕ) (away : List ℕ) (i : ℕ) → length away ≤ i → no_copy n (drop i away) ≡ None
copies_end n [] zero h = refl
copies_end n [] (suc i) h = refl
copies_end n (x ∷ xs) zero h = absurd (omega arith)
copies_end n (x ∷ xs) (suc i) h = copies_end n xs i (omega arith)

turned : (b : Bool) → ◌≡◌ {A = ℕ} (cond b 0 1) (cond (not b) 1 0)
turned true = refl
turned false = refl

pub marks_all : (n : ℕ) (away : List ℕ) (reach : List ℕ) → n ≤ 64 → length reach ≡ 64 → ((k : ℕ) → k < 64 → get_or reach k 0 ≡ cond (among away (k + 1)) 0 1) → take n reach ≡ reach_without n away
marks_all n away reach few long h =
    let len = length-take-le n reach (omega (arith, long)) in
    ext_get_or 0 (take n reach) (reach_without n away) (len ∙ sym (length-map-range_with_len (λ c. cond (not (among away c)) 1 0) 1 n)) (λ k lt.
    get_or-take n reach k 0 (omega (arith, len)) ∙ h k (omega (arith, len)) ∙ turned (among away (k + 1)) ∙ sym (get_or-map-range_with_len (λ c. cond (not (among away c)) 1 0) 1 n k (k + 1) 0 (omega (arith, len)) (omega arith)))

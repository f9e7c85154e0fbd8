-- The first copy that fails, and what a list means that is right throughout.
use Rattle.std.proofs.Common.{◌≡◌, ℕ, zero, suc, ◌+◌, ◌-◌, ◌<◌, ◌≤◌, Bool, true, false, cond, ◌||◌, ◌==◌, ◌≢◌, ltb, List, [], ◌∷◌, length, get_or, take, Some, None, Option, MatchOption, sym, refl, ap, ◌∙◌, subst, arith, length-take-le, get_or-take, ltb-false, ltb-true}
use Rattle.families.specs.Copies.{among, is_copy}
use Rattle.places.specs.Places.{Once, first_failing, first_wrong, place_of, right}
use Rattle.std.proofs.lemmas.List.FromFn.{get_or-range_with_len, length-range_with_len}
use Rattle.std.proofs.lemmas.Bool.Decides.{nat_tests}
use Rattle.std.proofs.lemmas.List.Folds.{list_any_at}
use Rattle.std.specs.List.{list_any, range_with_len}

pub among_any : (xs : List ℕ) (c : ℕ) → list_any (λ x. x == c) xs ≡ among xs c
among_any [] c = refl
among_any (x ∷ xs) c = ap (λ b. x == c || b) (among_any xs c)

-- the first number from a on that fails the test
module _ (test : ℕ → Bool) where
  abbrev pub Stops : ℕ → ℕ → Option ℕ → Type 0
  Stops a end r = MatchOption r ((k : ℕ) → a ≤ k → k < end → test k ≡ true) (λ c. (a ≤ c) × (c < end) × (test c ≡ false) × ((k : ℕ) → a ≤ k → k < c → test k ≡ true))

  stops_later : (a end : ℕ) (r : Option ℕ) → test a ≡ true → Stops a end r → Stops (a + 1) end r
  stops_later a end None e s = λ k h l. s k (omega arith) l
  stops_later a end (Some c) e s =
      let after : a ≢ c = λ q. absurd (cc (s.2, e, q)) in
      (omega (arith, s.0), s.1, s.2, λ k h l. s.3 k (omega arith) l)

  stop_here : (a end : ℕ) → a < end → (rest o : Option ℕ) → (Stops (a + 1) end o → o ≡ rest) → (b : Bool) → test a ≡ b → Stops a end o → o ≡ cond b rest (Some a)
  stop_here a end here rest o more true q t = more (stops_later a end o q t)
  stop_here a end here rest None more false q t = let passes : test a ≡ true = t a (omega arith) here in absurd (cc)
  stop_here a end here rest (Some c) more false q t =
      let not_later : a < c → ⊥ = λ l. let passes : test a ≡ true = t.3 a (omega arith) l in absurd (cc) in
      ap Some (omega (arith, t.0))

  pub first_stop : (n a end : ℕ) → a + n ≡ end → (r : Option ℕ) → Stops a end r → r ≡ first_failing test (range_with_len a n)
  first_stop zero a end e None s = refl
  first_stop zero a end e (Some c) s = absurd (omega (arith, s.0, s.1))
  first_stop (suc n) a end e r s = stop_here a end (omega arith) (first_failing test (range_with_len (a + 1) n)) r (first_stop n (a + 1) end (omega arith) r) (test a) refl s

-- a list that is right throughout names no station twice
all_pass : (test : ℕ → Bool) (xs : List ℕ) → first_failing test xs ≡ None → (i : ℕ) → i < length xs → test (get_or xs i 0) ≡ true
all_pass test [] e i h = absurd (omega arith)
all_pass test (x ∷ xs) e zero h = let all : first_failing test (x ∷ xs) ≡ None = e in grind (arith, nat_tests)
all_pass test (x ∷ xs) e (suc i) h = let more : first_failing test xs ≡ None = grind (arith, nat_tests) in all_pass test xs more i (omega arith)

among_at : (xs : List ℕ) (i : ℕ) → i < length xs → among xs (get_or xs i 0) ≡ true
among_at xs i h = let x = get_or xs i 0 in sym (among_any xs x) ∙ list_any_at (λ y. y == x) xs i 0 h (grind (arith, nat_tests))

module _ (ps : List ℕ) (none : first_wrong ps ≡ None) where
  all_right : (c : ℕ) → is_copy (length ps) c ≡ true → right ps c ≡ true
  all_right c h =
      let low : 1 ≤ c = grind (arith, nat_tests) in
      let high : c ≤ length ps = grind (arith, nat_tests) in
      let at : get_or (range_with_len 1 (length ps)) (c - 1) 0 ≡ c = get_or-range_with_len 1 (length ps) (c - 1) 0 (omega arith) ∙ omega arith in
      subst (λ x. right ps x ≡ true) at (all_pass (right ps) (range_with_len 1 (length ps)) none (c - 1) (omega (arith, length-range_with_len 1 (length ps))))

  not_before : (c d : ℕ) → is_copy (length ps) c ≡ true → is_copy (length ps) d ≡ true → c < d → place_of ps c ≡ place_of ps d → ⊥
  not_before c d hc hd lt e =
      let low : 1 ≤ c = grind (arith, nat_tests) in
      let high : d ≤ length ps = grind (arith, nat_tests) in
      let len = length-take-le (d - 1) ps (omega arith) in
      let there : among (take (d - 1) ps) (place_of ps c) ≡ true = subst (λ x. among (take (d - 1) ps) x ≡ true) (get_or-take (d - 1) ps (c - 1) 0 (omega arith)) (among_at (take (d - 1) ps) (c - 1) (omega (arith, len))) in
      let here : among (take (d - 1) ps) (place_of ps d) ≡ true = subst (λ x. among (take (d - 1) ps) x ≡ true) e there in
      let sound = all_right d hd in
      grind (arith, nat_tests)

  pub named_once : Once ps
  named_once = record {
    stations = λ c h. let sound = all_right c h in grind (arith, nat_tests);
    apart = λ c d hc hd e. omega (arith, not_below c d hc hd e, not_below d c hd hc (sym e));
  }
    where
      not_below : (c d : ℕ) → is_copy (length ps) c ≡ true → is_copy (length ps) d ≡ true → place_of ps c ≡ place_of ps d → d ≤ c
      not_below c d hc hd e = elim (ltb c d) as (λ b. ltb c d ≡ b → d ≤ c) [ true ↦ (λ q. absurd (not_before c d hc hd (ltb-true c d q) e)) | false ↦ (λ q. ltb-false c d q) ] refl

failing_step : (b : Bool) (a n c : ℕ) (rest : Option ℕ) → cond b rest (Some a) ≡ Some c → (rest ≡ Some c → c < (a + 1) + n) → c < a + suc n
failing_step true a n c rest e more = omega (arith, more e)
failing_step false a n c rest e more = let same : a ≡ c = grind (arith, nat_tests) in omega arith

failing_inside : (test : ℕ → Bool) (a n c : ℕ) → first_failing test (range_with_len a n) ≡ Some c → c < a + n
failing_inside test a zero c e = absurd (grind (arith, nat_tests))
failing_inside test a (suc n) c e = failing_step (test a) a n c (first_failing test (range_with_len (a + 1) n)) e (failing_inside test (a + 1) n c)

pub wrong_inside : (ps : List ℕ) (c : ℕ) → first_wrong ps ≡ Some c → c ≤ length ps
wrong_inside ps c e = let lt = failing_inside (right ps) 1 (length ps) c e in omega arith

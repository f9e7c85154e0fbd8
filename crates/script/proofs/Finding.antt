-- What `find_map` finds in a slice.
use Rattle.std.proofs.Common.{◌≡◌, ℕ, zero, suc, ◌+◌, ◌<◌, List, [], ◌∷◌, ◌++◌, length, map, Some, None, IsSomeAnd, IsTrue, Option, MatchOption, slice_get, refl, sym, ap, ◌∙◌, subst, arith, Bor, unwrap_or}
use Rattle.std.proofs.iter.Yields.{fronts}
use Rattle.std.proofs.iter.runs.Made.{at-is, each_of, took}
use Rattle.std.specs.Fn.{Called}
use Rattle.std.specs.Iterator.{Yields}
use Rattle.std.specs.Option.{option_map}
use Rattle.std.specs.Iterator.Runs.{AllItemsGive, CallKeepsClosure, IsFirstToGive, Run, SomeRun}
use Rattle.std.specs.declared.slice.Iter.{Iter}
use denote.Param.Members.{Mut}
use Rattle.script.specs.Order.{first_of}

given : {A : Type 0} (xs : List (Bor A)) (s t : Iter A) → Yields fronts s xs t → s.rest.now ≡ map (λ x. x.now) xs ++ t.rest.now
given [] s t e = ap (λ i. i.rest.now) e
given (x ∷ xs) s t y = y.1 ∙ ap (λ l. x.now ∷ l) (given xs y.0 t y.2)

-- `h` tells what each element gives, and `view` reads it off what the code gives
module _ {A B D : Type 0} (view : D → B) (h : A → Option B) (other : B) where
  none_given : (xs : List (Bor A)) → ((k : ℕ) → MatchOption (slice_get xs k) (Unit {0}) (λ x. h x.now ≡ None)) → first_of h other (map (λ x. x.now) xs ++ []) ≡ other
  none_given [] n = refl
  none_given (x ∷ xs) n = ap (λ o. unwrap_or o (first_of h other (map (λ x. x.now) xs ++ []))) (n 0) ∙ none_given xs (λ k. n (suc k))

  first_given : (y : B) (xs : List (Bor A)) (more : List A) (i : ℕ) → IsSomeAnd (slice_get xs i) (λ x. h x.now ≡ Some y) → ((k : ℕ) → k < i → IsSomeAnd (slice_get xs k) (λ x. h x.now ≡ None)) → first_of h other (map (λ x. x.now) xs ++ more) ≡ y
  first_given y [] more i is n = absurd is
  first_given y (x ∷ xs) more zero is n = ap (λ o. unwrap_or o (first_of h other (map (λ x. x.now) xs ++ more))) is
  first_given y (x ∷ xs) more (suc i) is n =
      ap (λ o. unwrap_or o (first_of h other (map (λ x. x.now) xs ++ more))) (n 0 (omega arith)) ∙ first_given y xs more i is (λ k l. n (suc k) (omega arith))

  module _ {F : Type 0} (g : Mut F (Bor A × Unit {0}) (Option D)) (f : F) (s : Iter A) (xs : List A) (all : s.rest.now ≡ xs)
      (keeps : CallKeepsClosure g f) (gives : (x : Bor A) (o : Option D) → Called g f (x, tt) o f → h x.now ≡ option_map view o) (p : Run fronts) (from : p.from ≡ s) where
    front : (t : Iter A) → Yields fronts p.from p.items t → map (λ x. x.now) p.items ++ t.rest.now ≡ xs
    front t y = sym (given p.items p.from t y) ∙ ap (λ i. i.rest.now) from ∙ all

    -- what the code gives at one place of the run
    at_place : (o : Option D) (k : ℕ) → IsSomeAnd (p.at k) (λ x. Called g f (x, tt) o f) → IsSomeAnd (slice_get p.items k) (λ x. h x.now ≡ option_map view o)
    at_place o k n = subst (λ x. IsSomeAnd x (λ v. h v.now ≡ option_map view o)) (at-is p k) (same (p.at k) n)
      where
        same : (x : Option (Bor A)) → IsSomeAnd x (λ v. Called g f (v, tt) o f) → IsSomeAnd x (λ v. h v.now ≡ option_map view o)
        same None n = absurd n
        same (Some x) n = gives x o n

    found : (d : D) → view d ≡ other → (r : Option D) → MatchOption r (IsTrue p.whole × AllItemsGive p g f None) (λ y. (i : ℕ) × (i < p.len) × (p.len ≡ i + 1) × IsFirstToGive p g f (Some y) None i) → view (unwrap_or r d) ≡ first_of h other xs
    found d e None w =
        let t = took p in
        let end : t.0.rest.now ≡ [] = no_more t.0.rest.now (t.2 w.0).1.0 in
        let none = each_of p (λ x. Called g f (x, tt) None f) (w.1 keeps) in
        e ∙ sym (none_given p.items (λ k. whenever (slice_get p.items k) (none k))) ∙ ap (λ l. first_of h other (map (λ x. x.now) p.items ++ l)) (sym end) ∙ ap (first_of h other) (front t.0 t.1)
      where
        no_more : (l : List A) → length l ≡ 0 → l ≡ []
        no_more [] e = refl
        no_more (x ∷ l) e = absurd (omega (arith, e))

        whenever : (o : Option (Bor A)) → MatchOption o (Unit {0}) (λ x. Called g f (x, tt) None f) → MatchOption o (Unit {0}) (λ x. h x.now ≡ None)
        whenever None n = tt
        whenever (Some x) n = gives x None n
    found d e (Some y) (i, here, last, w) =
        let t = took p in
        let first = w keeps in
        sym (first_given (view y) p.items t.0.rest.now i (at_place (Some y) i first.0) (λ k l. at_place None k (first.1 k l))) ∙ ap (first_of h other) (front t.0 t.1)

  pub first_found : {F : Type 0} (g : Mut F (Bor A × Unit {0}) (Option D)) (f : F) (s : Iter A) (xs : List A) (r : Option D) (d : D) → view d ≡ other → s.rest.now ≡ xs → CallKeepsClosure g f → ((x : Bor A) (o : Option D) → Called g f (x, tt) o f → h x.now ≡ option_map view o) → SomeRun fronts s (λ p. MatchOption r (IsTrue p.whole × AllItemsGive p g f None) (λ y. (i : ℕ) × (i < p.len) × (p.len ≡ i + 1) × IsFirstToGive p g f (Some y) None i)) → view (unwrap_or r d) ≡ first_of h other xs
  first_found g f s xs r d e all keeps gives run = found g f s xs all keeps gives run.0 run.1 d e r run.2

pub option_same : {A : Type 0} (o : Option A) → o ≡ option_map (λ x. x) o
option_same None = refl
option_same (Some x) = refl

-- What `try_collect` gathers, where each item is what a closure made of an item of the source.
use Rattle.std.proofs.Common.{◌≡◌, List, [], ◌∷◌, ◌++◌, ◌+◌, ◌≤◌, length, IfOk, Some, None, Ok, Err, vec_items, Option, Result, Vec, refl, sym, ap, ◌∙◌, subst, append_assoc, append-nil, arith, Bor}
use Rattle.std.proofs.iter.Yields.{fronts}
use Rattle.std.proofs.lemmas.Iterator.{maps}
use Rattle.std.specs.Fn.{Called}
use Rattle.std.specs.Iterator.{TryCollects, Yields}
use Rattle.std.specs.Iterator.Adapters.{map_callee, map_source}
use Rattle.std.specs.List.{AllZip, FoldsTo}
use Rattle.std.specs.declared.iter.Map.{Map}
use Rattle.std.specs.declared.slice.Iter.{Iter}
use Rattle.std.proofs.lemmas.Result.{IfOk-weaker}
use Rattle.std.specs.Vec.{vec_capacity, vec_len}
use denote.Param.Members.{Mut}

-- what a vector is made of, and what is put behind it
abbrev pub Collects : {Y Z : Type 0} → List Y → Vec Y Z → Type 0
Collects xs w = (vec_items w ≡ xs) × (vec_len w ≡ length xs)

abbrev pub Extends : {Y Z : Type 0} → Vec Y Z → List Y → Vec Y Z → Type 0
Extends p xs q = (vec_items q ≡ vec_items p ++ xs) × (vec_len q ≡ vec_len p + length xs) × (vec_capacity p ≤ vec_capacity q)

-- `Left s bs` says that the source s has bs left
module _ {S A B Y Z E F : Type 0} (steps : S → Option A → S → Type 0) (v : A → B) (Left : S → List B → Type 0)
    (end : (s t : S) → steps s None t → Left s []) (more : (s t : S) (x : A) (bs : List B) → steps s (Some x) t → Left t bs → Left s (v x ∷ bs))
    (g : Mut F (A × Unit {0}) (Result Y E)) (f : F) (R : B → Y → Type 0) (gives : (x : A) (y : Y) (q : F) → Called g f (x, tt) (Ok y) q → (q ≡ f) × R (v x) y) where
  -- y is put behind what p has
  abbrev Takes : Vec Y Z → Result Y E → Vec Y Z → Type 0
  Takes p x q = (y : Y) × (Ok y ≡ x) × Extends p (y ∷ []) q

  gathered : (xs : List (Result Y E)) (s t u : Map S F) (p q : Vec Y Z) → map_callee s ≡ f → Yields (maps steps g) s xs t → maps steps g t None u → FoldsTo Takes p xs q
      → (bs : List B) × Left (map_source s) bs × (ys : List Y) × (vec_items q ≡ vec_items p ++ ys) × AllZip R bs ys
  gathered [] s t u p q same y last took = ([], subst (λ k. Left (map_source k) []) (sym y) (end (map_source t) (map_source u) last.0), [], sym (ap vec_items took) ∙ sym (append-nil (vec_items p)), tt)
  gathered (x ∷ xs) s t u p q same (j, (a, step, call), y) last (k, (b, is, put), took) =
      let answer : Called g f (a, tt) (Ok b) (map_callee j) = subst (λ o. Called g f (a, tt) o (map_callee j)) (sym is) (subst (λ h. Called g h (a, tt) x (map_callee j)) same call) in
      let here = gives a b (map_callee j) answer in
      let rest = gathered xs j t u k q here.0 y last took in (
        v a ∷ rest.0,
        more (map_source s) (map_source j) a rest.0 step rest.1,
        b ∷ rest.2,
        rest.3 ∙ ap (λ l. l ++ rest.2) put.0 ∙ append_assoc (vec_items p) (b ∷ []) rest.2,
        (here.1, rest.4),
      )

  -- each item that the source had left is related to one that is gathered
  pub related : (s : Map S F) (r : Result (Vec Y Z) E) → map_callee s ≡ f
      → IfOk r (TryCollects (maps steps g) (λ x o. o ≡ x) Collects Extends s)
      → IfOk r (λ w. (bs : List B) × Left (map_source s) bs × AllZip R bs (vec_items w))
  related s (Ok w) same (xs, b, (u, (t, y, last)), none, took) =
      let all = gathered xs s t u b w same y last took in
      (all.0, all.1, subst (AllZip R all.0) (sym (all.3 ∙ ap (λ l. l ++ all.2) none.0)) all.4)
  related s (Err e) same h = tt

none_left : {A : Type 0} (s t : Iter A) → fronts s None t → s.rest.now ≡ []
none_left s t h = none s.rest.now h.0
  where
    none : {A : Type 0} (l : List A) → length l ≡ 0 → l ≡ []
    none [] e = refl
    none (x ∷ l) e = absurd (omega (arith, e))

module _ {A Y Z E F : Type 0} (g : Mut F (Bor A × Unit {0}) (Result Y E)) (f : F) (R : A → Y → Type 0) (gives : (x : Bor A) (y : Y) (q : F) → Called g f (x, tt) (Ok y) q → (q ≡ f) × R x.now y) where
  -- the same, where the source is a slice
  pub related_to_slice : (xs : List A) (s : Map (Iter A) F) (r : Result (Vec Y Z) E) → (map_source s).rest.now ≡ xs → map_callee s ≡ f
      → IfOk r (TryCollects (maps fronts g) (λ x o. o ≡ x) Collects Extends s)
      → IfOk r (λ w. AllZip R xs (vec_items w))
  related_to_slice xs s r all same h =
      IfOk-weaker r _ _ (λ w k. subst (λ l. AllZip R l (vec_items w)) (sym k.1 ∙ all) k.2)
      (related fronts (λ x. x.now) (λ i bs. i.rest.now ≡ bs) none_left (λ i j x bs e k. e ∙ ap (λ l. x.now ∷ l) k) g f R gives s r same h)

-- A tree's choice lies in reach and holds the quorum, and is absent where the reach holds none: by induction on the
-- height, and in a row by induction on the row.
use Rattle.std.proofs.Common.{◌≡◌, ℕ, zero, suc, ◌<◌, ◌≤◌, Bool, true, false, T, leb, List, [], ◌∷◌, ◌++◌, Some, None, Option, refl, suc-le-suc, zero-le, le_trans, arith, le→leb, leb→le}
use Rattle.families.specs.Copies.{Copies, among}
use Rattle.families.specs.Trees.{children, choice, count, gather, holds, near_first, one_if, with_copies}
use Rattle.families.specs.declared.Quorum.{Quorum}
use Rattle.families.specs.declared.Quorum.TheVariants.{Read, Write}
use Rattle.families.proofs.Counts.{count_grow, count_near_first, one_if_grow}
use Rattle.families.proofs.Laws.{Serves}
use Rattle.families.proofs.Sets.{Inside, among_itself, among_left, among_right, and_both, both_inside, only_inside, or_left, or_right}
use Rattle.families.proofs.TreeFamilies.{holds_grow}

-- what a row's choices are worth
abbrev pub Enough : (Copies → ℕ → Bool) → Copies → ℕ → List ℕ → Option (List ℕ) → Type 0
Enough hold s k row None = count (hold s) row < k
Enough hold s k row (Some l) = Inside (among l) s × (k ≤ count (hold (among l)) row)

module _ (hold : Copies → ℕ → Bool) (grow : (s t : Copies) (c : ℕ) → Inside s t → T (hold s c) → T (hold t c)) (s : Copies) where
  enough_skip : (k c : ℕ) (row : List ℕ) (y : Option (List ℕ)) → hold s c ≡ false → Enough hold s k row y → Enough hold s k (c ∷ row) y
  enough_skip k c row None e n = rw e n
  enough_skip k c row (Some l) e n = (n.0, le_trans n.1 (one_if_grow false (hold (among l) c) _ _ (λ x. absurd x) (omega arith)))

  one_more : (b : Bool) (m n : ℕ) → m < n → one_if b m < suc n
  one_more true m n l = suc-le-suc l
  one_more false m n l = omega arith

  enough_take : (k c : ℕ) (row l : List ℕ) (y : Option (List ℕ)) → Inside (among l) s → T (hold (among l) c) → Enough hold s k row y → Enough hold s (suc k) (c ∷ row) (with_copies l y)
  enough_take k c row l None w t n = one_more (hold s c) _ _ n
  enough_take k c row l (Some m) w t n = (
    both_inside l m s w n.0,
    one_if_grow true (hold (among (l ++ m)) c) k _ (λ _. grow (among l) (among (l ++ m)) c (among_left l m) t)
        (le_trans n.1 (count_grow (hold (among m)) (hold (among (l ++ m))) (λ x. grow (among m) (among (l ++ m)) x (among_right l m)) row)),
  )

  module _ (f : ℕ → Option (List ℕ)) (serves : (c : ℕ) → Serves (λ t. hold t c) s (f c)) where
    enough_step : (k c : ℕ) (row : List ℕ) (x : Option (List ℕ)) → Serves (λ t. hold t c) s x → Enough hold s (suc k) row (gather f (suc k) row) → Enough hold s k row (gather f k row) → Enough hold s (suc k) (c ∷ row) (elim x [ None ↦ gather f (suc k) row | Some l ↦ with_copies l (gather f k row) ])
    enough_step k c row None v skip take = enough_skip (suc k) c row _ v skip
    enough_step k c row (Some l) v skip take = enough_take k c row l _ v.0 v.1 take

    pub gather_enough : (k : ℕ) (row : List ℕ) → Enough hold s k row (gather f k row)
    gather_enough zero row = (λ c h. absurd h, zero-le)
    gather_enough (suc k) [] = suc-le-suc zero-le
    gather_enough (suc k) (c ∷ row) = enough_step k c row (f c) (serves c) (gather_enough (suc k) row) (gather_enough k row)

pub below_false : (k n : ℕ) → n < k → leb k n ≡ false
below_false k n l = go (leb k n) refl
  where
    go : (b : Bool) → leb k n ≡ b → b ≡ false
    go true e = let h : k ≤ n = leb→le k n (rw e tt) in absurd (omega arith)
    go false e = refl

pub leaf : (s : Copies) (c : ℕ) (b : Bool) → s c ≡ b → Serves (λ t. t c) s (elim b [ true ↦ Some (c ∷ []) | false ↦ None ])
leaf s c true e = (only_inside s c (rw e tt), among_itself c [])
leaf s c false e = e

pub choice_serves : (q : Quorum) (d h : ℕ) (s : Copies) (c : ℕ) → Serves (λ t. holds q d h t c) s (choice q d h s c)
choice_serves q d zero s c = leaf s c (s c) refl
choice_serves Write d (suc h) s c =
    node (s c) refl _ (gather_enough (λ t x. holds Write d h t x) (holds_grow Write d h) s (choice Write d h s) (choice_serves Write d h s) (suc d) (children d c))
  where
    enough : (y : Option (List ℕ)) → s c ≡ true → Enough (λ t x. holds Write d h t x) s (suc d) (children d c) y → Serves (λ t. holds Write d (suc h) t c) s (with_copies (c ∷ []) y)
    enough None e n = rw (e, below_false (suc d) _ n) refl
    enough (Some l) e n = (
      both_inside (c ∷ []) l s (only_inside s c (rw e tt)) n.0,
      and_both (among (c ∷ l) c) _ (among_itself c l)
          (le→leb (suc d) _ (le_trans n.1 (count_grow (holds Write d h (among l)) (holds Write d h (among (c ∷ l))) (λ x. holds_grow Write d h (among l) (among (c ∷ l)) x (among_right (c ∷ []) l)) (children d c)))),
    )

    node : (b : Bool) → s c ≡ b → (y : Option (List ℕ)) → Enough (λ t x. holds Write d h t x) s (suc d) (children d c) y → Serves (λ t. holds Write d (suc h) t c) s (elim b [ true ↦ with_copies (c ∷ []) y | false ↦ None ])
    node true e y n = enough y e n
    node false e y n = rw e refl
choice_serves Read d (suc h) s c =
    node (s c) refl _ (gather_enough (λ t x. holds Read d h t x) (holds_grow Read d h) s (choice Read d h s) (choice_serves Read d h s) (suc d) (near_first s (children d c)))
  where
    enough : (y : Option (List ℕ)) → s c ≡ false → Enough (λ t x. holds Read d h t x) s (suc d) (near_first s (children d c)) y → Serves (λ t. holds Read d (suc h) t c) s y
    enough None e n = rw e (below_false (suc d) _ (rw (count_near_first (holds Read d h s) s (children d c)) at n))
    enough (Some l) e n =
        (n.0, or_right (among l c) _ (le→leb (suc d) _ (rw (count_near_first (holds Read d h (among l)) s (children d c)) at n.1)))

    node : (b : Bool) → s c ≡ b → (y : Option (List ℕ)) → Enough (λ t x. holds Read d h t x) s (suc d) (near_first s (children d c)) y → Serves (λ t. holds Read d (suc h) t c) s (elim b [ true ↦ Some (c ∷ []) | false ↦ y ])
    node true e y n = (only_inside s c (rw e tt), or_left (among (c ∷ []) c) _ (among_itself c []))
    node false e y n = enough y e n

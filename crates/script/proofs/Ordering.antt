-- One line more, where the bad lines are gathered.
use Rattle.std.proofs.Common.{◌≡◌, ℕ, zero, suc, ◌+◌, ◌<◌, ◌≤◌, Bool, List, [], ◌∷◌, ◌++◌, length, get_or, take, drop, Some, None, Option, sym, refl, ap, ◌∙◌, append_assoc, append-nil, add-one, arith, length-take, drop-cons}
use Rattle.std.proofs.lemmas.List.{take_more}
use Rattle.script.specs.Order.{bad_lines, fault_at, told_as}
use Rattle.script.specs.declared.line.Line.{Line}
use Rattle.script.specs.declared.order.BadLine.{BadLine}
use Rattle.script.specs.declared.order.Cause.{Cause}

-- what a function of the lines left is, by the first of them
left_step : {A R : Type 0} (f : List A → R) (step : A → R → R) → ((x : A) (xs : List A) → f (x ∷ xs) ≡ step x (f xs)) → (xs : List A) (i : ℕ) (x : A) → i < length xs → x ≡ get_or xs i x → f (drop i xs) ≡ step x (f (drop (i + 1) xs))
left_step f step by xs i x here is = rw (add-one, drop-cons xs i x, ← is) (by x (drop (suc i) xs))

left_end : {A R : Type 0} (f : List A → R) (xs : List A) (i : ℕ) → length xs ≤ i → f (drop i xs) ≡ f []
left_end f [] zero h = refl
left_end f [] (suc i) h = refl
left_end f (x ∷ xs) zero h = absurd (omega arith)
left_end f (x ∷ xs) (suc i) h = left_end f xs i (omega arith)

-- a line that is bad, and one that is not
pub one_told : (bad all : List BadLine) (n : ℕ) (fault : Option Cause) (c : Cause) → fault ≡ Some c → all ≡ bad ++ (record { number = n; cause = c } ∷ []) → all ≡ bad ++ told_as n fault
one_told bad all n fault c is e = e ∙ ap (λ f. bad ++ told_as n f) (sym is)

pub none_told : (bad : List BadLine) (n : ℕ) (fault : Option Cause) → fault ≡ None → bad ≡ bad ++ told_as n fault
none_told bad n fault is = sym (append-nil bad) ∙ ap (λ f. bad ++ told_as n f) (sym is)

-- the bad lines: those so far, and those that are left
module _ {S C : Type 0} (same : S → S → Bool) (xs : List (Option (Line S C))) (i : ℕ) (bad : List BadLine) (all : bad_lines same [] xs ≡ bad ++ bad_lines same (take i xs) (drop i xs)) where
  pub bad_more : (x : Option (Line S C)) → i < length xs → x ≡ get_or xs i x → (fault : Option Cause) → fault ≡ fault_at same (take i xs) x → bad_lines same [] xs ≡ (bad ++ told_as (i + 1) fault) ++ bad_lines same (take (i + 1) xs) (drop (i + 1) xs)
  bad_more x here is fault e =
      let count : length (take i xs) ≡ i = simp length-take (omega arith) in
      let front : take (i + 1) xs ≡ take i xs ++ (x ∷ []) = take_more xs i x here ∙ ap (λ y. take i xs ++ (y ∷ [])) (sym is) in
      all
      ∙ ap (λ l. bad ++ bad_lines same (take i xs) l) (left_step (λ l. l) (λ y l. y ∷ l) (λ y ys. refl) xs i x here is)
      ∙ ap (λ n. bad ++ (told_as (n + 1) (fault_at same (take i xs) x) ++ bad_lines same (take i xs ++ (x ∷ [])) (drop (i + 1) xs))) count
      ∙ ap (λ f. bad ++ (told_as (i + 1) f ++ bad_lines same (take i xs ++ (x ∷ [])) (drop (i + 1) xs))) (sym e)
      ∙ ap (λ l. bad ++ (told_as (i + 1) fault ++ bad_lines same l (drop (i + 1) xs))) (sym front)
      ∙ sym (append_assoc bad (told_as (i + 1) fault) (bad_lines same (take (i + 1) xs) (drop (i + 1) xs)))

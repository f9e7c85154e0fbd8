-- What words tell, where what other words tell is passed through a function.
use Rattle.std.proofs.Common.{◌≡◌, ℕ, List, Some, None, IsSomeAnd, Option, MatchOption, sym, subst}
use Rattle.notation.specs.Words.{Tells}

module _ {A B : Type 0} (P : List (List ℕ) → A → Type 0) (Q : List (List ℕ) → B → Type 0) (vs ws : List (List ℕ)) (f : A → B) (Gives : A → B → Type 0)
    (is : (a : A) (b : B) → Gives a b → b ≡ f a) (some : (a : A) → P vs a → Q ws (f a)) (none : ((a : A) → P vs a → ⊥) → (b : B) → Q ws b → ⊥) where
  pub tells_mapped : (o : Option A) (r : Option B) → MatchOption o (r ≡ None) (λ a. IsSomeAnd r (Gives a)) → Tells P vs o → Tells Q ws r
  tells_mapped None r e h = subst (Tells Q ws) (sym e) (none h)
  tells_mapped (Some a) None e h = absurd e
  tells_mapped (Some a) (Some b) e h = subst (Q ws) (sym (is a b e)) (some a h)

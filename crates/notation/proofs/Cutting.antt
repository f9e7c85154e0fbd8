-- What an iterator over words gave are the words.
use Rattle.std.proofs.Common.{ℕ, List, [], ◌∷◌, IfOk, Some, None, Ok, Err, vec_items, Option, Result, Vec, sym, subst, Bor}
use Rattle.std.proofs.lemmas.Iterator.{IsCollectResult}
use Rattle.std.specs.Iterator.{Yields}
use Rattle.std.specs.Str.{NoCharPasses}
use Rattle.std.specs.Char.{is_not_whitespace}
use Rattle.notation.specs.Cutting.{FirstWord, Words}
use Rattle.notation.specs.Words.{texts}

module _ {S : Type 0} (steps : S → Option (Bor (List ℕ)) → S → Type 0) (left : S → List ℕ)
    (word : (s t : S) (x : Bor (List ℕ)) → steps s (Some x) t → FirstWord (left s) x.now (left t))
    (end : (s t : S) → steps s None t → NoCharPasses is_not_whitespace (left s)) where
  words_from_yields : (xs : List (Bor (List ℕ))) (s t u : S) → Yields steps s xs t → steps t None u → Words (left s) (texts xs)
  words_from_yields [] s t u same last = subst (λ r. NoCharPasses is_not_whitespace (left r)) (sym same) (end t u last)
  words_from_yields (x ∷ xs) s t u given last =
      (left given.0, word s given.0 x given.1, words_from_yields xs given.0 t u given.2 last)

  pub words_from_collect : {Z E : Type 0} (s : S) (r : Result (Vec (Bor (List ℕ)) Z) E) → IsCollectResult steps s r → IfOk r (λ v. Words (left s) (texts (vec_items v)))
  words_from_collect s (Ok v) (xs, (t, given, more), items) =
      subst (λ l. Words (left s) (texts l)) (sym items.0) (words_from_yields xs s t (more tt).0 given (more tt).1)
  words_from_collect s (Err e) h = tt

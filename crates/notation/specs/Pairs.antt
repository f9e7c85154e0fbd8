-- Two lists whose elements are related in pairs, one pair more.
use Rattle.std.specs.Prelude.{◌≡◌, ℕ, ◌+◌, ◌<◌, List, [], ◌∷◌, ◌++◌, length, take, slice_index_or}
use Rattle.std.proofs.lemmas.List.{take_more}
use Rattle.std.specs.List.{AllZip}

module _ {A B : Type 0} (R : A → B → Type 0) where
  pub paired_push : (xs : List A) (ys : List B) (x : A) (y : B) → AllZip R xs ys → R x y → AllZip R (xs ++ (x ∷ [])) (ys ++ (y ∷ []))
  paired_push [] [] x y h k = (k, tt)
  paired_push [] (b ∷ ys) x y h k = absurd h
  paired_push (a ∷ xs) [] x y h k = absurd h
  paired_push (a ∷ xs) (b ∷ ys) x y h k = (h.0, paired_push xs ys x y h.1 k)

  pub paired_more : (xs : List A) (i : ℕ) (d : A) (ys all : List B) (y : B) → i < length xs → AllZip R (take i xs) ys → R (slice_index_or xs i d) y → all ≡ ys ++ (y ∷ []) → AllZip R (take (i + 1) xs) all
  paired_more xs i d ys all y here so_far is e = rw (e, take_more xs i d here) (paired_push (take i xs) ys (slice_index_or xs i d) y so_far is)

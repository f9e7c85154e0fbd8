-- Which copies words say are away.
use Rattle.std.proofs.Common.{◌≡◌, ℕ, ◌<◌, List, [], ◌∷◌, length, IfOk, Some, None, Ok, Err, vec_items, codes, Option, Result, Vec, sym, refl, ap, ◌∙◌, subst, arith, Bor}
use Rattle.families.specs.Meaning.{quorum_name}
use Rattle.families.specs.declared.Quorum.{Quorum}
use Rattle.notation.specs.Meanings.{length_texts, says_rest, wholes_length}
use Rattle.notation.specs.Words.{Tells, Wholes, texts}
use Rattle.std.specs.declared.alloc.AllocError.{AllocError}
use Rattle.std.specs.declared.alloc.Global.{Global}
use Rattle.rulescript.specs.Lines.{AwayWords, ChooseWords}

module _ (ws : List (Bor (List ℕ))) (first : Bor (List ℕ)) (rest : List (Bor (List ℕ))) (e : ws ≡ first ∷ rest) where
  -- the first word is `away`, and the copies stand behind it
  pub away_first : (copies : List ℕ) → AwayWords (texts ws) copies → (codes "away" ≡ first.now) × Wholes (texts rest) copies × (0 < length rest)
  away_first [] h = absurd (omega (arith, ap length (sym h ∙ ap texts e)))
  away_first (c ∷ cs) h =
      let p = says_rest ws first.now first rest (codes "away") (c ∷ cs) e refl h in
      (p.0, p.1, omega (arith, wholes_length (texts rest) (c ∷ cs) p.1, length_texts rest))

  module _ (is : first.now ≡ codes "away") (some : 0 < length rest) where
    away_from : (copies : List ℕ) → Wholes (texts rest) copies → AwayWords (texts ws) copies
    away_from [] h = absurd (omega (arith, wholes_length (texts rest) [] h, length_texts rest))
    away_from (c ∷ cs) h = (texts rest, ap texts e ∙ ap (λ w. w ∷ texts rest) is, h)

    pub away_made : (r : Result (Option (Vec ℕ Global)) AllocError) → IfOk r (λ o. Tells (λ ws v. Wholes ws (vec_items v)) (texts rest) o) → IfOk r (λ o. Tells (λ ws v. AwayWords ws (vec_items v)) (texts ws) o)
    away_made (Ok None) h = λ v k. h v (away_first (vec_items v) k).1
    away_made (Ok (Some v)) h = away_from (vec_items v) h
    away_made (Err x) h = tt

  -- what stands behind the name of the quorum
  pub choose_rest : (q : Quorum) (copies : List ℕ) → ChooseWords (texts ws) q copies → (first.now ≡ quorum_name q) × AwayWords (texts rest) copies
  choose_rest q copies h =
      let all = sym h.1 ∙ ap texts e in
      let names : first.now ≡ quorum_name q = cc in
      let rests : h.0 ≡ texts rest = cc in
      (names, subst (λ r. AwayWords r copies) rests h.2)

  pub choose_from : (q : Quorum) (copies : List ℕ) → first.now ≡ quorum_name q → AwayWords (texts rest) copies → ChooseWords (texts ws) q copies
  choose_from q copies is h = (texts rest, ap texts e ∙ ap (λ w. w ∷ texts rest) is, h)

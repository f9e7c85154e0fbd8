-- Votes counted along their list.
use Rattle.std.proofs.Common.{◌≡◌, ℕ, zero, suc, ◌+◌, ◌-◌, ◌<◌, Bool, true, false, not, ◌&&◌, ◌||◌, eqb, List, [], ◌∷◌, Option, sym, refl, ap, arith}
use Rattle.std.proofs.lemmas.Bool.Decides.{nat_tests}
use Rattle.families.specs.Copies.{Copies}
use Rattle.families.specs.Trees.{with_copies}
use Rattle.families.specs.Votes.{votes_choice}
use Rattle.quorum.specs.Sets.{members}
use Rattle.quorum.specs.declared.copy_set.CopySet.{CopySet}
use Rattle.quorum.proofs.Gathering.{SoFar, added_one, nothing_yet, passed_over}

-- The set has the copies taken so far, and what is wanted still comes from the rest, which begins with copy c.
pub record Counted (s : Copies) (whole : Option (List ℕ)) (set : CopySet) (wanted c : ℕ) (rest : List ℕ) : Type 0 where
  pub so_far : SoFar whole set (votes_choice wanted c rest s)

pub counted_none : (t : ℕ) (votes : List ℕ) (s : Copies) {set : CopySet} → ((k : ℕ) → members set k ≡ false) → Counted s (votes_choice t 1 votes s) set t 1 votes
counted_none t votes s e = record { so_far = nothing_yet (votes_choice t 1 votes s) _ e }

choice_skip : (s : Copies) (w c v : ℕ) (rest : List ℕ) → (s c && not (eqb v 0)) ≡ false → votes_choice w c (v ∷ rest) s ≡ votes_choice w (c + 1) rest s
choice_skip s zero c v rest e = refl
choice_skip s (suc w) c v rest e = rw (e, votes_choice) refl

choice_take : (s : Copies) (w w' c v : ℕ) (rest : List ℕ) → 0 < w → w' ≡ w - v → (s c && not (eqb v 0)) ≡ true → votes_choice w c (v ∷ rest) s ≡ with_copies (c ∷ []) (votes_choice w' (c + 1) rest s)
choice_take s zero w' c v rest p n e = absurd (omega arith)
choice_take s (suc w) w' c v rest p n e = rw (e, votes_choice) (ap (λ k. with_copies (c ∷ []) (votes_choice k (c + 1) rest s)) (sym n))

module _ {s : Copies} {whole : Option (List ℕ)} {set : CopySet} where
  -- no more is wanted
  pub counted_done : {w c d : ℕ} {rest left : List ℕ} → w ≡ 0 → Counted s whole set w c rest → Counted s whole set w d left
  counted_done e g = record { so_far = passed_over whole set _ _ (rw e refl) g.so_far }

  pub counted_skip : {w c v : ℕ} {rest : List ℕ} → (s c && not (eqb v 0)) ≡ false → Counted s whole set w c (v ∷ rest) → Counted s whole set w (c + 1) rest
  counted_skip {w = w} {c = c} {v = v} {rest = rest} e g = record { so_far = passed_over whole set _ _ (choice_skip s w c v rest e) g.so_far }

  pub counted_take : {set' : CopySet} {w w' c v : ℕ} {rest : List ℕ} → 0 < w → w' ≡ w - v → (s c && not (eqb v 0)) ≡ true → ((x : ℕ) → members set' x ≡ (eqb c x || members set x)) → Counted s whole set w c (v ∷ rest) → Counted s whole set' w' (c + 1) rest
  counted_take {set' = set'} {w = w} {w' = w'} {c = c} {v = v} {rest = rest} p n e u g =
      record { so_far = added_one whole set set' c _ _ (choice_take s w w' c v rest p n e) u g.so_far }

-- which copies are taken
pub is_taken : (b : Bool) (v : ℕ) → true ≡ b → (v ≡ 0 → ⊥) → (b && not (eqb v 0)) ≡ true
is_taken b v e n = grind (arith, nat_tests)

pub is_away : (b : Bool) (v : ℕ) → false ≡ b → (b && not (eqb v 0)) ≡ false
is_away b v e = rw (← e) refl

pub is_without : (b : Bool) (v : ℕ) → v ≡ 0 → (b && not (eqb v 0)) ≡ false
is_without b v e = grind (arith, nat_tests)

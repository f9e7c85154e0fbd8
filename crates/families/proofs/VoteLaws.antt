-- The votes rule keeps the laws.
use Rattle.std.proofs.Common.{◌≡◌, ℕ, zero, suc, ◌+◌, ◌-◌, ◌<◌, ◌≤◌, Bool, true, false, cond, not, ◌&&◌, T, eqb, leb, ◌⊎◌, List, [], ◌∷◌, length, Some, None, Option, refl, ap, ◌∙◌, subst, inl, inr, zero-le, arith, le→leb, eqb→eq, leb→le}
use lib.Dec.{nleb→lt}
use Rattle.families.specs.Copies.{Copies, Shared, among, everything, marked, outside}
use Rattle.families.specs.Meaning.{Lawful}
use Rattle.families.specs.Trees.{with_copies}
use Rattle.families.specs.Votes.{Allowed, threshold, total, votes_choice, votes_from, votes_hold, votes_of, votes_rule}
use Rattle.families.specs.declared.Quorum.{Quorum}
use Rattle.families.specs.declared.Quorum.TheVariants.{Read, Write}
use Rattle.families.proofs.Laws.{Agree, Serves, choose_listed, grow_within, outside_same}
use Rattle.families.proofs.Sets.{Inside, among_itself, among_right, and_left, both_inside, copy_from, only_inside}
use Rattle.families.proofs.TreeChoices.{below_false}

-- the votes of a set

votes_split : (c : ℕ) (vs : List ℕ) (s : Copies) → votes_from c vs s + votes_from c vs (λ x. not (s x)) ≡ votes_from c vs everything
votes_split c [] s = refl
votes_split c (v ∷ vs) s = step (s c) _ _ _ (votes_split (c + 1) vs s)
  where
    step : (b : Bool) (m n k : ℕ) → m + n ≡ k → (cond b v 0 + m) + (cond (not b) v 0 + n) ≡ v + k
    step true m n k e = omega arith
    step false m n k e = omega arith

cond_grow : (a b : Bool) (v m n : ℕ) → (T a → T b) → m ≤ n → cond a v 0 + m ≤ cond b v 0 + n
cond_grow true true v m n f h = omega arith
cond_grow true false v m n f h = absurd (f tt)
cond_grow false true v m n f h = omega arith
cond_grow false false v m n f h = omega arith

votes_grow : (c : ℕ) (vs : List ℕ) (s t : Copies) → Inside s t → votes_from c vs s ≤ votes_from c vs t
votes_grow c [] s t f = zero-le
votes_grow c (v ∷ vs) s t f = cond_grow (s c) (t c) v _ _ (f c) (votes_grow (c + 1) vs s t f)

votes_same : (n c : ℕ) (vs : List ℕ) (s t : Copies) → 1 ≤ c → c + length vs ≤ n + 1 → Agree n s t → votes_from c vs s ≡ votes_from c vs t
votes_same n c [] s t p l e = refl
votes_same n c (v ∷ vs) s t p l e =
    ap (λ b. cond b v 0 + votes_from (c + 1) vs s) (e c (copy_from n c p (omega arith)))
    ∙ ap (λ m. cond (t c) v 0 + m) (votes_same n (c + 1) vs s t (omega arith) (omega arith) e)

-- two sets share a copy, or their votes together are no more than all
shared_or : (n c : ℕ) (vs : List ℕ) (s t : Copies) → 1 ≤ c → c + length vs ≤ n + 1 → Shared n s t ⊎ (votes_from c vs s + votes_from c vs t ≤ votes_from c vs everything)
shared_or n c [] s t p l = inr (omega arith)
shared_or n c (v ∷ vs) s t p l = step (s c) (t c) refl refl (shared_or n (c + 1) vs s t (omega arith) (omega arith))
  where
    step : (a b : Bool) → s c ≡ a → t c ≡ b → Shared n s t ⊎ (votes_from (c + 1) vs s + votes_from (c + 1) vs t ≤ votes_from (c + 1) vs everything) → Shared n s t ⊎ ((cond a v 0 + votes_from (c + 1) vs s) + (cond b v 0 + votes_from (c + 1) vs t) ≤ v + votes_from (c + 1) vs everything)
    step a b e f (inl h) = inl h
    step true true e f (inr h) = inl (c, copy_from n c p (omega arith), rw e tt, rw f tt)
    step true false e f (inr h) = inr (omega arith)
    step false true e f (inr h) = inr (omega arith)
    step false false e f (inr h) = inr (omega arith)

-- the choice

abbrev Worth : ℕ → ℕ → List ℕ → Copies → Option (List ℕ) → Type 0
Worth t c vs s None = votes_from c vs s < t
Worth t c vs s (Some l) = Inside (among l) s × (t ≤ votes_from c vs (among l))

worth_take : (t c v : ℕ) (vs : List ℕ) (s : Copies) (y : Option (List ℕ)) → T (s c) → Worth (t - v) (c + 1) vs s y → Worth t c (v ∷ vs) s (with_copies (c ∷ []) y)
worth_take t c v vs s None h w = taken (s c) h
  where
    taken : (b : Bool) → T b → cond b v 0 + votes_from (c + 1) vs s < t
    taken true k = omega (arith, w)
    taken false k = absurd k
worth_take t c v vs s (Some m) h w =
    (both_inside (c ∷ []) m s (only_inside s c h) w.0, taken (among (c ∷ m) c) (among_itself c m))
  where
    taken : (b : Bool) → T b → t ≤ cond b v 0 + votes_from (c + 1) vs (among (c ∷ m))
    taken true k = omega (arith, w.1, votes_grow (c + 1) vs (among m) (among (c ∷ m)) (among_right (c ∷ []) m))
    taken false k = absurd k

worth_skip : (t c v : ℕ) (vs : List ℕ) (s : Copies) (y : Option (List ℕ)) → cond (s c) v 0 ≡ 0 → Worth t (c + 1) vs s y → Worth t c (v ∷ vs) s y
worth_skip t c v vs s None e w = omega (arith, e, w)
worth_skip t c v vs s (Some l) e w = (w.0, omega (arith, w.1))

no_votes : (b : Bool) (v : ℕ) → (b && not (eqb v 0)) ≡ false → cond b v 0 ≡ 0
no_votes true v e = zero_from (eqb v 0) refl e
  where
    zero_from : (z : Bool) → eqb v 0 ≡ z → not z ≡ false → v ≡ 0
    zero_from true q f = eqb→eq v 0 (rw q tt)
    zero_from false q f = absurd (subst T f tt)
no_votes false v e = refl

choice_worth : (t c : ℕ) (vs : List ℕ) (s : Copies) → Worth t c vs s (votes_choice t c vs s)
choice_worth zero c vs s = (λ x h. absurd h, zero-le)
choice_worth (suc t) c [] s = omega arith
choice_worth (suc t) c (v ∷ vs) s =
    step (s c && not (eqb v 0)) refl (choice_worth (suc t - v) (c + 1) vs s) (choice_worth (suc t) (c + 1) vs s)
  where
    step : (b : Bool) → (s c && not (eqb v 0)) ≡ b → Worth (suc t - v) (c + 1) vs s (votes_choice (suc t - v) (c + 1) vs s) → Worth (suc t) (c + 1) vs s (votes_choice (suc t) (c + 1) vs s) → Worth (suc t) c (v ∷ vs) s (cond b (with_copies (c ∷ []) (votes_choice (suc t - v) (c + 1) vs s)) (votes_choice (suc t) (c + 1) vs s))
    step true e take skip = worth_take (suc t) c v vs s _ (and_left (s c) (not (eqb v 0)) (rw e tt)) take
    step false e take skip = worth_skip (suc t) c v vs s _ (no_votes (s c) v e) skip

votes_serve : (q : Quorum) (votes : List ℕ) (w : ℕ) (s : Copies) → Serves (votes_hold q votes w) s (votes_choice (threshold q votes w) 1 votes s)
votes_serve q votes w s = worth (votes_choice (threshold q votes w) 1 votes s) (choice_worth (threshold q votes w) 1 votes s)
  where
    worth : (y : Option (List ℕ)) → Worth (threshold q votes w) 1 votes s y → Serves (votes_hold q votes w) s y
    worth None n = below_false _ _ n
    worth (Some l) n = (n.0, le→leb _ _ n.1)

-- the laws

module _ (votes : List ℕ) (w : ℕ) where
  local : (q : Quorum) (s t : Copies) → Agree (length votes) s t → votes_hold q votes w s ≡ votes_hold q votes w t
  local q s t e = ap (leb (threshold q votes w)) (votes_same (length votes) 1 votes s t (omega arith) (omega arith) e)

  grow : (q : Quorum) (s t : Copies) → Inside s t → T (votes_hold q votes w s) → T (votes_hold q votes w t)
  grow q s t f h = le→leb _ (votes_of votes t) (omega (arith, leb→le (threshold q votes w) (votes_of votes s) h, votes_grow 1 votes s t f))

  module _ (ok : Allowed votes w) where
    read_or_write : (s : Copies) → votes_hold Read votes w s ≡ not (votes_hold Write votes w (λ c. not (s c)))
    read_or_write s = go (leb (total votes + 1 - w) (votes_of votes s)) (leb w (votes_of votes (λ c. not (s c)))) refl refl
      where
        all : votes_of votes s + votes_of votes (λ c. not (s c)) ≡ total votes
        all = votes_split 1 votes s

        go : (x y : Bool) → leb (total votes + 1 - w) (votes_of votes s) ≡ x → leb w (votes_of votes (λ c. not (s c))) ≡ y → x ≡ not y
        go true true p q =
            let h : total votes + 1 - w ≤ votes_of votes s = leb→le _ (votes_of votes s) (rw p tt) in
            let k : w ≤ votes_of votes (λ c. not (s c)) = leb→le w _ (rw q tt) in
            absurd (omega (arith, all, ok.reachable))
        go true false p q = refl
        go false true p q = refl
        go false false p q =
            let h : votes_of votes s < total votes + 1 - w = nleb→lt _ (votes_of votes s) (rw p tt) in
            let k : votes_of votes (λ c. not (s c)) < w = nleb→lt w _ (rw q tt) in
            absurd (omega (arith, all, ok.reachable))

    meet : (s t : Copies) → T (votes_hold Write votes w s) → T (votes_hold Write votes w t) → Shared (length votes) s t
    meet s t h k = elim (shared_or (length votes) 1 votes s t (omega arith) (omega arith)) [
      | inl shared ↦ shared
      | inr few ↦ absurd (omega (arith, few, ok.over_half, leb→le w (votes_of votes s) h, leb→le w (votes_of votes t) k))
    ]

    pub votes_lawful : Lawful (votes_rule votes w)
    votes_lawful = record {
      sized = (ok.some, ok.few);
      dual = λ s. read_or_write s ∙ ap not (local Write (λ c. not (s c)) (outside (length votes) s) (outside_same (length votes) s));
      meet = meet;
      grow = λ q. grow_within (length votes) (votes_hold q votes w) (local q) (grow q);
      all = le→leb w (total votes) ok.reachable;
      choose = λ q reach. choose_listed (votes_rule votes w) q (local q) reach (votes_choice (threshold q votes w) 1 votes (marked (length votes) reach)) (votes_serve q votes w (marked (length votes) reach));
    }

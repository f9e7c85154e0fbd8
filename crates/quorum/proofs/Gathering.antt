-- What a row has given so far, and a choice from the choices below.
use Rattle.std.proofs.Common.{◌≡◌, ℕ, zero, suc, ◌-◌, ◌<◌, Bool, true, false, ◌||◌, eqb, List, [], ◌∷◌, ◌++◌, Some, None, Option, sym, refl, ap, ◌∙◌, subst, append_assoc, arith}
use Rattle.families.specs.Copies.{Copies, among}
use Rattle.families.specs.Levels.{choice_joined}
use Rattle.families.specs.Trees.{children, choice, gather, near_first, with_copies}
use Rattle.quorum.specs.declared.copy_set.CopySet.{CopySet}
use Rattle.quorum.specs.Sets.{Is, Joins, Same, members}
use Rattle.quorum.proofs.Rows.{gather-near_first}
use Rattle.families.specs.declared.Quorum.{Quorum}
use Rattle.families.specs.declared.Quorum.TheVariants.{Read, Write}

-- what an optional set says of the choice
pub is_none : (x : Option (List ℕ)) → Is None x → x ≡ None
is_none None i = refl
is_none (Some l) i = absurd i

pub record Chose (s : CopySet) (x : Option (List ℕ)) : Type 0 where
  pub copies : List ℕ
  pub is : x ≡ Some copies
  pub same : Same (members s) (among copies)

pub is_some : (s : CopySet) (x : Option (List ℕ)) → Is (Some s) x → Chose s x
is_some s None i = absurd i
is_some s (Some l) i = record { copies = l; is = refl; same = i }

or_assoc : (a b c : Bool) → ((a || b) || c) ≡ (a || (b || c))
or_assoc true b c = refl
or_assoc false b c = refl

or_turned : (a b : Bool) → (a || b) ≡ (b || (a || false))
or_turned true true = refl
or_turned true false = refl
or_turned false true = refl
or_turned false false = refl

among_append : (l m : List ℕ) (k : ℕ) → among (l ++ m) k ≡ (among l k || among m k)
among_append [] m k = refl
among_append (x ∷ l) m k = ap (λ b. eqb x k || b) (among_append l m k) ∙ sym (or_assoc (eqb x k) (among l k) (among m k))

with_none : (x : Option (List ℕ)) → with_copies [] x ≡ x
with_none None = refl
with_none (Some l) = refl

with_both : (l m : List ℕ) (x : Option (List ℕ)) → with_copies l (with_copies m x) ≡ with_copies (l ++ m) x
with_both l m None = refl
with_both l m (Some n) = ap Some (sym (append_assoc l m n))

-- The set has the first copies of a choice, and the rest of the choice is still to come.
pub record SoFar (whole : Option (List ℕ)) (s : CopySet) (rest : Option (List ℕ)) : Type 0 where
  pub copies : List ℕ
  pub same : Same (members s) (among copies)
  pub left : whole ≡ with_copies copies rest

module _ (whole : Option (List ℕ)) where
  pub nothing_yet : (s : CopySet) → ((c : ℕ) → members s c ≡ false) → SoFar whole s whole
  nothing_yet s e = record { copies = []; same = e; left = sym (with_none whole) }

  -- nothing is added
  pub passed_over : (s : CopySet) (rest rest' : Option (List ℕ)) → rest ≡ rest' → SoFar whole s rest → SoFar whole s rest'
  passed_over s rest rest' e g = subst (SoFar whole s) e g

  -- the copies of a set are added
  pub added : (s s' : CopySet) (m : List ℕ) (rest rest' : Option (List ℕ)) → rest ≡ with_copies m rest' → ((x : ℕ) → members s' x ≡ (members s x || among m x)) → SoFar whole s rest → SoFar whole s' rest'
  added s s' m rest rest' e u g =
      record {
        copies = g.copies ++ m;
        same = λ x. u x ∙ ap (λ b. b || among m x) (g.same x) ∙ sym (among_append g.copies m x);
        left = g.left ∙ ap (with_copies g.copies) e ∙ with_both g.copies m rest';
      }

  -- one copy is added
  pub added_one : (s s' : CopySet) (c : ℕ) (rest rest' : Option (List ℕ)) → rest ≡ with_copies (c ∷ []) rest' → ((x : ℕ) → members s' x ≡ (eqb c x || members s x)) → SoFar whole s rest → SoFar whole s' rest'
  added_one s s' c rest rest' e u g = added s s' (c ∷ []) rest rest' e (λ x. u x ∙ or_turned (eqb c x) (members s x)) g

  -- what is left is not to be had
  pub lacking : (s : CopySet) (rest : Option (List ℕ)) → rest ≡ None → SoFar whole s rest → Is None whole
  lacking s rest e g = let l : whole ≡ None = g.left ∙ ap (with_copies g.copies) e in rw l tt

-- The set has the choices that a row has given, and what is wanted of the whole still comes from the rest of the row.
pub record Gathered (f : ℕ → Option (List ℕ)) (whole : Option (List ℕ)) (s : CopySet) (wanted : ℕ) (rest : List ℕ) : Type 0 where
  pub so_far : SoFar whole s (gather f wanted rest)

pub gathered_none : (f : ℕ → Option (List ℕ)) (k : ℕ) (row : List ℕ) {s : CopySet} → ((c : ℕ) → members s c ≡ false) → Gathered f (gather f k row) s k row
gathered_none f k row e = record { so_far = nothing_yet (gather f k row) _ e }

gather_skip : (f : ℕ → Option (List ℕ)) (w : ℕ) (c : ℕ) (rest : List ℕ) → f c ≡ None → gather f w (c ∷ rest) ≡ gather f w rest
gather_skip f zero c rest e = refl
gather_skip f (suc w) c rest e = rw (e, gather) refl

gather_take : (f : ℕ → Option (List ℕ)) (w w' : ℕ) (c : ℕ) (rest m : List ℕ) → w ≡ suc w' → f c ≡ Some m → gather f w (c ∷ rest) ≡ with_copies m (gather f w' rest)
gather_take f w w' c rest m p e = rw (p, e, gather) refl

module _ {f : ℕ → Option (List ℕ)} {whole : Option (List ℕ)} {s : CopySet} where
  -- no more are wanted
  pub gathered_done : {w : ℕ} {rest left : List ℕ} → w ≡ 0 → Gathered f whole s w rest → Gathered f whole s w left
  gathered_done e g = record { so_far = passed_over whole s _ _ (rw e refl) g.so_far }

  pub gathered_skip : {w c : ℕ} {rest : List ℕ} → Is None (f c) → Gathered f whole s w (c ∷ rest) → Gathered f whole s w rest
  gathered_skip {w = w} {c = c} {rest = rest} i g = record { so_far = passed_over whole s _ _ (gather_skip f w c rest (is_none (f c) i)) g.so_far }

  pub gathered_take : (b : CopySet) {s' : CopySet} {w w' c : ℕ} {rest : List ℕ} → Is (Some b) (f c) → w ≡ suc w' → ((x : ℕ) → members s' x ≡ (members s x || members b x)) → Gathered f whole s w (c ∷ rest) → Gathered f whole s' w' rest
  gathered_take b {s' = s'} {w = w} {w' = w'} {c = c} {rest = rest} i e u g =
      let h = is_some b (f c) i in
      record { so_far = added whole s s' h.copies _ _ (gather_take f w w' c rest h.copies e h.is) (λ x. u x ∙ ap (λ y. members s x || y) (h.same x)) g.so_far }

  -- a copy that is its own choice
  pub gathered_one : {s' : CopySet} {w w' c : ℕ} {rest : List ℕ} → f c ≡ Some (c ∷ []) → w ≡ suc w' → ((x : ℕ) → members s' x ≡ (eqb c x || members s x)) → Gathered f whole s w (c ∷ rest) → Gathered f whole s' w' rest
  gathered_one {s' = s'} {w = w} {w' = w'} {c = c} {rest = rest} i e u g = record { so_far = added_one whole s s' c _ _ (gather_take f w w' c rest (c ∷ []) e i) u g.so_far }

  pub gathered_too_few : {w : ℕ} → 0 < w → Gathered f whole s w [] → Is None whole
  gathered_too_few {w = zero} p g = absurd (omega arith)
  gathered_too_few {w = suc w} p g = lacking whole s (gather f (suc w) []) refl g.so_far

-- a copy away has no choice for writing
write_away : (d h : ℕ) (s : Copies) (c : ℕ) → s c ≡ false → choice Write d h s c ≡ None
write_away d zero s c e = rw (e, choice) refl
write_away d (suc h) s c e = rw (e, choice) refl

-- The choice of a copy with children, of a quorum that is known to be the one or the other.
module _ (q : Quorum) (d h : ℕ) (s : Copies) (c : ℕ) (above : 0 < h) where
  abbrev pub below : Option (List ℕ)
  below = gather (choice q d (h - 1) s) (suc d) (near_first s (children d c))

  with_children : h ≡ suc (h - 1)
  with_children = omega arith

  pub reading_away : (r : Option CopySet) → q ≡ Read → s c ≡ false → Is r below → Is r (choice q d h s c)
  reading_away r k t i = rw (with_children, k, t, choice) i

  by_number : q ≡ Write → below ≡ gather (choice q d (h - 1) s) (suc d) (children d c)
  by_number k = gather-near_first (choice q d (h - 1) s) s (λ x e. rw k (write_away d (h - 1) s x e)) (suc d) (children d c)

  pub writing_none : q ≡ Write → s c ≡ true → Is None below → Is None (choice q d h s c)
  writing_none k t i = rw (with_children, k, t, choice, is_none _ (rw (by_number k) at i)) tt

  pub writing_here : (r r' : CopySet) → q ≡ Write → s c ≡ true → Is (Some r) below → ((x : ℕ) → members r' x ≡ (eqb c x || members r x)) → Is (Some r') (choice q d h s c)
  writing_here r r' k t i u =
      let g = is_some r _ (rw (by_number k) at i) in
      rw (with_children, k, t, choice, g.is) (λ x. u x ∙ ap (λ b. eqb c x || b) (g.same x))

-- Two choices joined for writing.
pub joined_write : (one other r : Option CopySet) (x y : Option (List ℕ)) → Joins one other r → Is one x → Is other y → Is r (choice_joined Write x y)
joined_write None other r None y j i k = rw j tt
joined_write None other r (Some l) y j i k = absurd i
joined_write (Some s) other r None y j i k = absurd i
joined_write (Some s) None r (Some l) None j i k = rw j tt
joined_write (Some s) None r (Some l) (Some m) j i k = absurd k
joined_write (Some s) (Some t) r (Some l) None j i k = absurd k
joined_write (Some s) (Some t) None (Some l) (Some m) j i k = absurd j
joined_write (Some s) (Some t) (Some r) (Some l) (Some m) j i k = λ c. j c ∙ rw (i c, k c) (sym (among_append l m c))

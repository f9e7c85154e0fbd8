-- A row of copies: one copy after another, and in two passes.
use Rattle.std.proofs.Common.{◌≡◌, ℕ, zero, suc, ◌+◌, ◌-◌, ◌<◌, Bool, true, false, not, List, [], ◌∷◌, ◌++◌, Some, None, filter, Option, refl, sym, ap, ◌∙◌, arith}
use Rattle.std.proofs.Math.Bool.{beq}
use Rattle.std.specs.declared.ops.Range.{Range}
use Rattle.families.specs.Copies.{Copies}
use Rattle.families.specs.Trees.{gather, near_first, with_copies}
use Rattle.quorum.specs.Rows.{copies_in}

-- the first copy of the row, and the rest
pub row_next : (row rest : Range ℕ) (c : ℕ) → (rest.end ≡ row.end) × ((0 < row.end - row.start) × (c ≡ row.start) × (rest.start ≡ row.start + 1)) → copies_in row ≡ c ∷ copies_in rest
row_next row rest c (end, (some, first, next)) =
    let left : row.end - row.start ≡ suc (rest.end - rest.start) = omega (arith, end, next) in
    rw (left, first, next) refl

-- whether the copy is among those that a pass looks at: those in reach, or those away
abbrev pub looked_at : Bool → Copies → Copies
looked_at near s c = elim near [ true ↦ s c | false ↦ not (s c) ]

-- what the passes find in the row
abbrev pub passes : List Bool → Copies → List ℕ → List ℕ
passes [] s row = []
passes (near ∷ later) s row = filter (looked_at near s) row ++ passes later s row

looked : (near b x seen : Bool) → beq b near ≡ seen → b ≡ x → elim near [ true ↦ x | false ↦ not x ] ≡ seen
looked true true x seen e h = sym h ∙ e
looked true false x seen e h = sym h ∙ e
looked false true x seen e h = ap not (sym h) ∙ e
looked false false x seen e h = ap not (sym h) ∙ e

-- a pass goes over the first copy, which is in reach exactly if b
module _ (near : Bool) (s : Copies) (c : ℕ) (rest later : List ℕ) (b : Bool) where
  pub pass_takes : beq b near ≡ true → b ≡ s c → filter (looked_at near s) (c ∷ rest) ++ later ≡ c ∷ (filter (looked_at near s) rest ++ later)
  pass_takes e h = rw (looked near b (s c) true e h) refl

  pub pass_skips : beq b near ≡ false → b ≡ s c → filter (looked_at near s) (c ∷ rest) ++ later ≡ filter (looked_at near s) rest ++ later
  pass_skips e h = rw (looked near b (s c) false e h) refl

-- where copies away have no choice, the order by number and the order of `near_first` choose the same
module _ (f : ℕ → Option (List ℕ)) (s : Copies) (away : (c : ℕ) → s c ≡ false → f c ≡ None) where
  none_left : (k : ℕ) (row : List ℕ) → gather f k (filter (λ c. not (s c)) row) ≡ gather f k []
  none_left zero row = refl
  none_left (suc k) [] = refl
  none_left (suc k) (c ∷ row) = step (s c) refl (none_left (suc k) row)
    where
      step : (b : Bool) → s c ≡ b → gather f (suc k) (filter (λ c. not (s c)) row) ≡ None → gather f (suc k) (filter (λ c. not (s c)) (c ∷ row)) ≡ None
      step true e rest = rw e rest
      step false e rest = rw (e, away c e, gather) rest

  either : (x : Option (List ℕ)) {a a' b b' : Option (List ℕ)} → a ≡ a' → b ≡ b' → ◌≡◌ {A = Option (List ℕ)} (elim x [ None ↦ a | Some l ↦ with_copies l b ]) (elim x [ None ↦ a' | Some l ↦ with_copies l b' ])
  either None p q = p
  either (Some l) p q = ap (with_copies l) q

  gather_near : (k : ℕ) (row rest : List ℕ) → gather f k (filter s row ++ filter (λ c. not (s c)) rest) ≡ gather f k row
  gather_near k [] rest = none_left k rest
  gather_near zero (c ∷ row) rest = refl
  gather_near (suc k) (c ∷ row) rest = step (s c) refl (gather_near (suc k) row rest) (gather_near k row rest)
    where
      step : (b : Bool) → s c ≡ b → gather f (suc k) (filter s row ++ filter (λ c. not (s c)) rest) ≡ gather f (suc k) row → gather f k (filter s row ++ filter (λ c. not (s c)) rest) ≡ gather f k row → gather f (suc k) (filter s (c ∷ row) ++ filter (λ c. not (s c)) rest) ≡ gather f (suc k) (c ∷ row)
      step true e skip take = rw e (either (f c) skip take)
      step false e skip take = rw (e, away c e, gather) skip

  pub gather-near_first : (k : ℕ) (row : List ℕ) → gather f k (near_first s row) ≡ gather f k row
  gather-near_first k row = gather_near k row row

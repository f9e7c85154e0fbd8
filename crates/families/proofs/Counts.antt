-- Counting in a row, and majorities of it.
use Rattle.std.proofs.Common.{◌≡◌, ℕ, suc, ◌+◌, ◌-◌, ◌*◌, ◌<◌, ◌≤◌, Bool, true, false, cond, not, T, leb, List, [], ◌∷◌, ◌++◌, length, filter, sym, refl, ap, ◌∙◌, suc-le-suc, zero-le, le_trans, arith, le→leb, leb→le}
use lib.Dec.{nleb→lt}
use Rattle.std.proofs.lemmas.List.FromFn.{length-range_with_len}
use Rattle.std.specs.List.{AllByRecursion}
use Rattle.families.specs.Copies.{Copies}
use Rattle.families.specs.Trees.{children, count, most, near_first, one_if}

one_if_split : (b : Bool) (m n k : ℕ) → m + n ≡ k → one_if (not b) m + one_if b n ≡ suc k
one_if_split true m n k e = omega arith
one_if_split false m n k e = omega arith

-- those that pass, and those that do not, are all
pub count_split : (p q : ℕ → Bool) → ((c : ℕ) → p c ≡ not (q c)) → (row : List ℕ) → count p row + count q row ≡ length row
count_split p q e [] = refl
count_split p q e (c ∷ row) = rw (e c) (one_if_split (q c) _ _ _ (count_split p q e row))

pub one_if_grow : (a b : Bool) (m n : ℕ) → (T a → T b) → m ≤ n → one_if a m ≤ one_if b n
one_if_grow true true m n f h = suc-le-suc h
one_if_grow true false m n f h = absurd (f tt)
one_if_grow false true m n f h = omega arith
one_if_grow false false m n f h = h

pub count_grow : (p q : ℕ → Bool) → ((c : ℕ) → T (p c) → T (q c)) → (row : List ℕ) → count p row ≤ count q row
count_grow p q f [] = zero-le
count_grow p q f (c ∷ row) = one_if_grow (p c) (q c) _ _ (f c) (count_grow p q f row)

pub count_all : (p : ℕ → Bool) → ((c : ℕ) → T (p c)) → (row : List ℕ) → length row ≤ count p row
count_all p f [] = zero-le
count_all p f (c ∷ row) = one_if_grow true (p c) _ _ (λ _. f c) (count_all p f row)

pub count_same : (p q : ℕ → Bool) (row : List ℕ) → AllByRecursion (λ c. p c ≡ q c) row → count p row ≡ count q row
count_same p q [] h = refl
count_same p q (c ∷ row) h = rw h.0 (ap (one_if (q c)) (count_same p q row h.1))

one_if_add : (b : Bool) (m n : ℕ) → one_if b (m + n) ≡ one_if b m + n
one_if_add true m n = omega arith
one_if_add false m n = refl

count_append : (p : ℕ → Bool) (l m : List ℕ) → count p (l ++ m) ≡ count p l + count p m
count_append p [] m = omega arith
count_append p (c ∷ l) m = ap (one_if (p c)) (count_append p l m) ∙ one_if_add (p c) (count p l) (count p m)

count_near : (p : ℕ → Bool) (s : Copies) (row : List ℕ) → count p (filter s row) + count p (filter (λ c. not (s c)) row) ≡ count p row
count_near p s [] = refl
count_near p s (c ∷ row) = step (s c) (count_near p s row)
  where
    step : (b : Bool) → count p (filter s row) + count p (filter (λ x. not (s x)) row) ≡ count p row → count p (cond b (c ∷ filter s row) (filter s row)) + count p (cond (not b) (c ∷ filter (λ x. not (s x)) row) (filter (λ x. not (s x)) row)) ≡ one_if (p c) (count p row)
    step true e = rw (← e) (sym (one_if_add (p c) _ _))
    step false e = rw (← e) (other (p c) _ _)
      where
        other : (b : Bool) (m n : ℕ) → m + one_if b n ≡ one_if b (m + n)
        other true m n = omega arith
        other false m n = refl

-- the order in which a row is looked at does not change the count
pub count_near_first : (p : ℕ → Bool) (s : Copies) (row : List ℕ) → count p (near_first s row) ≡ count p row
count_near_first p s row = count_append p (filter s row) (filter (λ c. not (s c)) row) ∙ count_near p s row

-- of an odd number, one part or the other is the majority
pub majority : (d a b : ℕ) → a + b ≡ 2 * d + 1 → leb (suc d) a ≡ not (leb (suc d) b)
majority d a b e = go (leb (suc d) a) (leb (suc d) b) refl refl
  where
    go : (x y : Bool) → leb (suc d) a ≡ x → leb (suc d) b ≡ y → x ≡ not y
    go true true p q =
        let h : suc d ≤ a = leb→le (suc d) a (rw p tt) in
        let k : suc d ≤ b = leb→le (suc d) b (rw q tt) in
        absurd (omega arith)
    go true false p q = refl
    go false true p q = refl
    go false false p q =
        let h : a < suc d = nleb→lt (suc d) a (rw p tt) in
        let k : b < suc d = nleb→lt (suc d) b (rw q tt) in
        absurd (omega arith)

pub most_split : (d : ℕ) (p q : ℕ → Bool) → ((c : ℕ) → p c ≡ not (q c)) → (c : ℕ) → most d p c ≡ not (most d q c)
most_split d p q e c =
    majority d (count p (children d c)) (count q (children d c))
    (count_split p q e (children d c) ∙ length-range_with_len ((2 * d + 1) * (c - 1) + 2) (2 * d + 1))

pub most_grow : (d : ℕ) (p q : ℕ → Bool) → ((c : ℕ) → T (p c) → T (q c)) → (c : ℕ) → T (most d p c) → T (most d q c)
most_grow d p q f c h =
    le→leb (suc d) (count q (children d c))
    (le_trans (leb→le (suc d) (count p (children d c)) h) (count_grow p q f (children d c)))

pub most_all : (d : ℕ) (p : ℕ → Bool) → ((c : ℕ) → T (p c)) → (c : ℕ) → T (most d p c)
most_all d p f c =
    let n : length (children d c) ≡ 2 * d + 1 = length-range_with_len ((2 * d + 1) * (c - 1) + 2) (2 * d + 1) in
    let m : length (children d c) ≤ count p (children d c) = count_all p f (children d c) in
    le→leb (suc d) (count p (children d c)) (omega arith)

-- The laws of a tree's two families, for every degree, height and root, each by induction on the height.
use Rattle.std.proofs.Common.{◌≡◌, ℕ, zero, suc, ◌+◌, ◌-◌, ◌*◌, ◌<◌, ◌≤◌, Bool, true, false, not, ◌&&◌, ◌||◌, T, leb, List, [], ◌∷◌, refl, ap, ◌∙◌, mul_assoc, add-mul, mul-le-mul_left, one-mul, mul-suc, arith}
use Rattle.std.specs.List.{range_with_len, AllByRecursion}
use Rattle.families.specs.Copies.{Copies}
use Rattle.families.specs.Trees.{children, holds, joined, last_copy, most}
use Rattle.families.specs.declared.Quorum.{Quorum}
use Rattle.families.specs.declared.Quorum.TheVariants.{Read, Write}
use Rattle.families.proofs.Counts.{count_same, most_all, most_grow, most_split}
use Rattle.families.proofs.Sets.{Inside, and_left}

pub not_not : (b : Bool) → b ≡ not (not b)
not_not true = refl
not_not false = refl

pub or_not : (a x y : Bool) → x ≡ not y → (a || x) ≡ not (not a && y)
or_not true x y e = refl
or_not false x y e = e

pub joined_grow : (q : Quorum) (a b x y : Bool) → (T a → T b) → (T x → T y) → T (joined q a x) → T (joined q b y)
joined_grow Write true true x y f g h = g h
joined_grow Write true false x y f g h = absurd (f tt)
joined_grow Write false b x y f g h = absurd h
joined_grow Read a true x y f g h = tt
joined_grow Read true false x y f g h = absurd (f tt)
joined_grow Read false false x y f g h = g h

-- a set holds a read quorum exactly when what is not in it holds no write quorum
pub read_or_write : (d h : ℕ) (s : Copies) (c : ℕ) → holds Read d h s c ≡ not (holds Write d h (λ x. not (s x)) c)
read_or_write d zero s c = not_not (s c)
read_or_write d (suc h) s c = or_not (s c) _ _ (most_split d _ _ (read_or_write d h s) c)

pub root_written : (d h : ℕ) (s : Copies) (c : ℕ) → T (holds Write d h s c) → T (s c)
root_written d zero s c w = w
root_written d (suc h) s c w = and_left (s c) _ w

pub holds_grow : (q : Quorum) (d h : ℕ) (s t : Copies) (c : ℕ) → Inside s t → T (holds q d h s c) → T (holds q d h t c)
holds_grow q d zero s t c f w = f c w
holds_grow q d (suc h) s t c f w =
    joined_grow q (s c) (t c) _ _ (f c) (most_grow d _ _ (λ x. holds_grow q d h s t x f) c) w

pub all_write : (d h c : ℕ) → T (holds Write d h (λ x. true) c)
all_write d zero c = tt
all_write d (suc h) c = most_all d _ (all_write d h) c

-- only the copies of the subtree count

pub last_grows : (d h b c : ℕ) → b ≤ c → last_copy d h b ≤ last_copy d h c
last_grows d zero b c l = l
last_grows d (suc h) b c l =
    last_grows d h ((2 * d + 1) * b + 1) ((2 * d + 1) * c + 1) (omega (arith, mul-le-mul_left (2 * d + 1) l))

-- (2 d + 1) c, taken apart
pub odd_times : (d c : ℕ) → (2 * d + 1) * c ≡ 2 * (d * c) + c
odd_times d c = rw (add-mul, mul_assoc, one-mul) refl

pub at_most_last : (d h c : ℕ) → c ≤ last_copy d h c
at_most_last d zero c = omega arith
at_most_last d (suc h) c = omega (arith, at_most_last d h ((2 * d + 1) * c + 1), odd_times d c)

-- the children of a copy lie between 1 and its last child
module _ (d c : ℕ) (from_one : 0 < c) where
  abbrev pub IsChild : ℕ → Type 0
  IsChild x = (0 < x) × (x ≤ (2 * d + 1) * c + 1)

  run_in : (a n : ℕ) → 0 < a → a + n ≤ (2 * d + 1) * c + 2 → AllByRecursion IsChild (range_with_len a n)
  run_in a zero p l = tt
  run_in a (suc n) p l = ((p, omega arith), run_in (a + 1) n (omega arith) (omega arith))

  pub children_in : AllByRecursion IsChild (children d c)
  children_in =
      let g : (2 * d + 1) * c ≡ (2 * d + 1) * (c - 1) + (2 * d + 1) =
      let e : c ≡ suc (c - 1) = omega arith in
      ap (λ n. (2 * d + 1) * n) e ∙ mul-suc (2 * d + 1) (c - 1)
      in
      run_in ((2 * d + 1) * (c - 1) + 2) (2 * d + 1) (omega arith) (omega arith)

pub all_map : {P Q : ℕ → Type 0} → ((x : ℕ) → P x → Q x) → (row : List ℕ) → AllByRecursion P row → AllByRecursion Q row
all_map f [] h = tt
all_map f (x ∷ row) h = (f x h.0, all_map f row h.1)

-- sets that agree on the subtree's copies both hold a quorum of it or neither does
pub holds_same : (q : Quorum) (d h : ℕ) (s t : Copies) (c : ℕ) → 0 < c → ((x : ℕ) → 0 < x → x ≤ last_copy d h c → s x ≡ t x) → holds q d h s c ≡ holds q d h t c
holds_same q d zero s t c p e = e c p (omega arith)
holds_same q d (suc h) s t c p e =
    let root : s c ≡ t c = e c p (at_most_last d (suc h) c) in
    let row : AllByRecursion (λ x. holds q d h s x ≡ holds q d h t x) (children d c) =
    all_map (λ x i. holds_same q d h s t x i.0 (λ y l k. e y l (omega (arith, last_grows d h x ((2 * d + 1) * c + 1) i.1))))
    (children d c) (children_in d c p) in
    ap (λ b. joined q b (most d (holds q d h s) c)) root
    ∙ ap (λ n. joined q (t c) (leb (suc d) n)) (count_same (holds q d h s) (holds q d h t) (children d c) row)

-- Sets of copies: made of lists, and of marks.
use Rattle.std.proofs.Common.{◌≡◌, ℕ, zero, suc, ◌+◌, ◌-◌, ◌<◌, ◌≤◌, Bool, true, false, cond, not, ◌&&◌, ◌||◌, T, eqb, leb, List, [], ◌∷◌, ◌++◌, map, sym, refl, ap, ◌∙◌, subst, arith, le→leb, eqb→eq, leb→le}
use lib.Dec.{eqb_refl}
use Rattle.std.proofs.lemmas.List.FromFn.{get_or-map-range_with_len}
use Rattle.std.specs.List.{range_with_len}
use Rattle.families.specs.Copies.{Copies, among, is_copy, marked, marks}

-- tests that are joined

pub or_left : (a b : Bool) → T a → T (a || b)
or_left true b h = tt
or_left false b h = absurd h

pub or_right : (a b : Bool) → T b → T (a || b)
or_right true b h = tt
or_right false b h = h

pub or_either : (a b : Bool) {P : Type 0} → (T a → P) → (T b → P) → T (a || b) → P
or_either true b f g h = f h
or_either false b f g h = g h

pub and_left : (a b : Bool) → T (a && b) → T a
and_left true b h = tt
and_left false b h = h

pub and_right : (a b : Bool) → T (a && b) → T b
and_right true b h = h
and_right false b h = absurd h

pub and_both : (a b : Bool) → T a → T b → T (a && b)
and_both true b h k = k
and_both false b h k = absurd h

pub and_true : (a b : Bool) → T a → (a && b) ≡ b
and_true true b h = refl
and_true false b h = absurd h

-- wherever the copies are

abbrev pub Inside : Copies → Copies → Type 0
Inside s t = (c : ℕ) → T (s c) → T (t c)

pub among_left : (l m : List ℕ) → Inside (among l) (among (l ++ m))
among_left [] m c h = absurd h
among_left (x ∷ l) m c h = or_either (eqb x c) (among l c) (or_left (eqb x c) _) (λ k. or_right (eqb x c) _ (among_left l m c k)) h

pub among_right : (l m : List ℕ) → Inside (among m) (among (l ++ m))
among_right [] m c h = h
among_right (x ∷ l) m c h = or_right (eqb x c) _ (among_right l m c h)

pub both_inside : (l m : List ℕ) (s : Copies) → Inside (among l) s → Inside (among m) s → Inside (among (l ++ m)) s
both_inside [] m s f g c h = g c h
both_inside (x ∷ l) m s f g c h =
    or_either (eqb x c) (among (l ++ m) c) (λ k. f c (or_left (eqb x c) _ k)) (both_inside l m s (λ y k. f y (or_right (eqb x y) _ k)) g c) h

pub only_inside : (s : Copies) (c : ℕ) → T (s c) → Inside (among (c ∷ [])) s
only_inside s c t x h = or_either (eqb c x) false (λ k. subst (λ y. T (s y)) (eqb→eq c x k) t) (λ k. absurd k) h

pub among_itself : (c : ℕ) (l : List ℕ) → T (among (c ∷ l) c)
among_itself c l = or_left (eqb c c) _ (eqb_refl c)

-- copies 1 to n

pub copy_from : (n c : ℕ) → 1 ≤ c → c ≤ n → T (is_copy n c)
copy_from n c h k = and_both (leb 1 c) (leb c n) (le→leb 1 c h) (le→leb c n k)

pub copy_low : (n c : ℕ) → T (is_copy n c) → 1 ≤ c
copy_low n c h = leb→le 1 c (and_left (leb 1 c) (leb c n) h)

pub copy_high : (n c : ℕ) → T (is_copy n c) → c ≤ n
copy_high n c h = leb→le c n (and_right (leb 1 c) (leb c n) h)

-- marks

is_marked : (b : Bool) → not (eqb (cond b 1 0) 0) ≡ b
is_marked true = refl
is_marked false = refl

pub marked_marks : (n : ℕ) (s : Copies) (c : ℕ) → T (is_copy n c) → marked n (marks n s) c ≡ s c
marked_marks n s c h =
    let lo = copy_low n c h in
    let hi = copy_high n c h in
    and_true (is_copy n c) _ h
    ∙ ap (λ m. not (eqb m 0)) (get_or-map-range_with_len (λ x. cond (s x) 1 0) 1 n (c - 1) c 0 (omega arith) (omega arith))
    ∙ is_marked (s c)

map_same : (f g : ℕ → ℕ) (a n : ℕ) → ((c : ℕ) → a ≤ c → c < a + n → f c ≡ g c) → map f (range_with_len a n) ≡ map g (range_with_len a n)
map_same f g a zero h = refl
map_same f g a (suc n) h =
    let head = h a (omega arith) (omega arith) in
    let tail = map_same f g (a + 1) n (λ c l k. h c (omega arith) (omega arith)) in cc

-- a set and its marks tell the same copies
pub marks_clean : (n : ℕ) (s : Copies) → marks n s ≡ marks n (marked n (marks n s))
marks_clean n s =
    map_same _ _ 1 n (λ c l k. ap (λ b. cond b 1 0) (sym (marked_marks n s c (copy_from n c l (omega arith)))))

-- The levels rule keeps the laws.
use Rattle.std.proofs.Common.{◌≡◌, ℕ, zero, suc, ◌+◌, ◌-◌, ◌*◌, ◌≤◌, Bool, true, false, not, ◌&&◌, ◌||◌, T, leb, List, ◌++◌, length, Some, None, Option, sym, refl, ap, ◌∙◌, subst, le_trans, add-zero, mul-add, mul_left_comm, arith, le→leb, leb→le}
use Rattle.std.proofs.lemmas.List.FromFn.{length-range_with_len}
use Rattle.std.specs.List.{range_with_len, AllByRecursion}
use Rattle.families.specs.Copies.{Copies, among, is_copy, marked, outside}
use Rattle.families.specs.Levels.{alone, choice_joined, half_choice, half_held, level, level_choice, level_first, level_holds, level_size, levels_rule, more_than_half}
use Rattle.families.specs.Meaning.{Lawful}
use Rattle.families.specs.Trees.{copies_of, count, gather, joined, last_copy, one_if}
use Rattle.families.specs.declared.Quorum.{Quorum}
use Rattle.families.specs.declared.Quorum.TheVariants.{Read, Write}
use Rattle.families.proofs.Counts.{count_all, count_grow, count_same, count_split, majority}
use Rattle.families.proofs.Laws.{Agree, Serves, choose_listed, grow_within, outside_same}
use Rattle.families.proofs.Sets.{Inside, among_left, among_right, and_both, and_left, both_inside, copy_from, or_left, or_right}
use Rattle.families.proofs.TreeChoices.{Enough, below_false, gather_enough, leaf}
use Rattle.families.proofs.TreeFamilies.{all_map, at_most_last, joined_grow, not_not, odd_times}

-- every level is odd
pub record Odd (n : ℕ) : Type 0 where
  pub half : ℕ
  pub is : n ≡ 2 * half + 1

odd_product : (d j : ℕ) → (2 * d + 1) * (2 * j + 1) ≡ 2 * ((2 * d + 1) * j + d) + 1
odd_product d j = omega (arith, mul-add (2 * d + 1) (2 * j) 1, mul_left_comm (2 * d + 1) 2 j)

pub level_odd : (d k : ℕ) → Odd (level_size d k)
level_odd d zero = record { half = 0; is = refl }
level_odd d (suc k) =
    let o = level_odd d k in
    record { half = (2 * d + 1) * o.half + d; is = ap (λ n. (2 * d + 1) * n) o.is ∙ odd_product d o.half }

-- where a level is

pub level_first_from_one : (d k : ℕ) → 1 ≤ level_first d k
level_first_from_one d zero = omega arith
level_first_from_one d (suc k) = omega arith

last_below : (d h c : ℕ) → last_copy d (suc h) c ≡ (2 * d + 1) * last_copy d h c + 1
last_below d zero c = refl
last_below d (suc h) c = last_below d h ((2 * d + 1) * c + 1)

pub level_end : (d k : ℕ) → level_first d k + level_size d k ≡ last_copy d k 1 + 1
level_end d zero = refl
level_end d (suc k) =
    let b = 2 * d + 1 in
    let f = level_first d k in
    let one = level_first_from_one d k in
    let end : level_size d k + (f - 1) ≡ last_copy d k 1 = omega (arith, level_end d k) in
    let whole : b * level_size d k + b * (f - 1) ≡ b * last_copy d k 1 = sym (mul-add b (level_size d k) (f - 1)) ∙ ap (λ n. b * n) end in
    omega (arith, whole, last_below d k 1)

last_rises : (d h : ℕ) → last_copy d h 1 ≤ last_copy d (suc h) 1
last_rises d h = omega (arith, last_below d h 1, odd_times d (last_copy d h 1))

last_mono : (d k j : ℕ) → last_copy d k 1 ≤ last_copy d (k + j) 1
last_mono d k zero = rw add-zero (omega arith)
last_mono d k (suc j) =
    let e : k + suc j ≡ suc (k + j) = omega arith in
    rw e (le_trans (last_mono d k j) (last_rises d (k + j)))

-- a level ends no later than the tree
pub level_bounds : (d k h : ℕ) → k ≤ h → level_first d k + level_size d k ≤ last_copy d h 1 + 1
level_bounds d k h l =
    let e : k + (h - k) ≡ h = omega arith in
    omega (arith, level_end d k, rw e at (last_mono d k (h - k)))

run_in : (n a m : ℕ) → 1 ≤ a → a + m ≤ n + 1 → AllByRecursion (λ c. T (is_copy n c)) (range_with_len a m)
run_in n a zero p l = tt
run_in n a (suc m) p l = (copy_from n a p (omega arith), run_in n (a + 1) m (omega arith) (omega arith))

level_in : (d k n : ℕ) → last_copy d k 1 ≤ n → AllByRecursion (λ c. T (is_copy n c)) (level d k)
level_in d k n l = run_in n (level_first d k) (level_size d k) (level_first_from_one d k) (omega (arith, level_end d k))

-- halves

half_split : (d k : ℕ) (s : Copies) → half_held s (level d k) ≡ not (half_held (λ c. not (s c)) (level d k))
half_split d k s =
    let o = level_odd d k in
    let j = o.half in
    let len : length (level d k) ≡ 2 * j + 1 = length-range_with_len (level_first d k) (level_size d k) ∙ o.is in
    let half : more_than_half (length (level d k)) ≡ suc j = omega (arith, len) in
    let all : count s (level d k) + count (λ c. not (s c)) (level d k) ≡ 2 * j + 1 = count_split s (λ c. not (s c)) (λ c. not_not (s c)) (level d k) ∙ len in
    ap (λ m. leb m (count s (level d k))) half
    ∙ majority j (count s (level d k)) (count (λ c. not (s c)) (level d k)) all
    ∙ ap (λ m. not (leb m (count (λ c. not (s c)) (level d k)))) (sym half)

half_grow : (s t : Copies) → Inside s t → (row : List ℕ) → T (half_held s row) → T (half_held t row)
half_grow s t f row h = le→leb _ (count t row) (le_trans (leb→le _ (count s row) h) (count_grow s t f row))

half_all : (d k : ℕ) → T (half_held (λ c. true) (level d k))
half_all d k =
    let o = level_odd d k in
    let len : length (level d k) ≡ 2 * o.half + 1 = length-range_with_len (level_first d k) (level_size d k) ∙ o.is in
    le→leb _ (count (λ c. true) (level d k)) (omega (arith, len, count_all (λ c. true) (λ c. tt) (level d k)))

half_same : (n : ℕ) (s t : Copies) → Agree n s t → (row : List ℕ) → AllByRecursion (λ c. T (is_copy n c)) row → half_held s row ≡ half_held t row
half_same n s t e row h = ap (λ m. leb (more_than_half (length row)) m) (count_same s t row (all_map (λ c i. e c i) row h))

half_serves : (s : Copies) (row : List ℕ) → Serves (λ t. half_held t row) s (half_choice s row)
half_serves s row = worth (gather (alone s) (more_than_half (length row)) row) (gather_enough (λ t c. t c) (λ u t c f. f c) s (alone s) (λ c. leaf s c (s c) refl) (more_than_half (length row)) row)
  where
    worth : (y : Option (List ℕ)) → Enough (λ t c. t c) s (more_than_half (length row)) row y → Serves (λ t. half_held t row) s y
    worth None n = below_false _ _ n
    worth (Some l) n = (n.0, le→leb _ _ n.1)

-- the laws

apart : true ≡ false → ⊥
apart e = subst T e tt

and_false : (b : Bool) → (b && false) ≡ false
and_false true = refl
and_false false = refl

read_or_write : (d h : ℕ) (s : Copies) → level_holds Read d h s ≡ not (level_holds Write d h (λ c. not (s c)))
read_or_write d zero s = half_split d zero s
read_or_write d (suc h) s =
    both (level_holds Read d h s) _ _ _ (read_or_write d h s) (half_split d (suc h) s)
  where
    both : (a b x y : Bool) → a ≡ not b → x ≡ not y → (a || x) ≡ not (b && y)
    both true true x y e f = absurd (apart e)
    both true false x y e f = refl
    both false true x y e f = f
    both false false x y e f = absurd (apart (sym e))

root_written : (d h : ℕ) (s : Copies) → T (level_holds Write d h s) → T (s 1)
root_written d zero s w = one (s 1) w
  where
    one : (b : Bool) → T (leb 1 (one_if b 0)) → T b
    one true h = tt
    one false h = absurd h
root_written d (suc h) s w = root_written d h s (and_left (level_holds Write d h s) _ w)

pub level_grow : (q : Quorum) (d h : ℕ) (s t : Copies) → Inside s t → T (level_holds q d h s) → T (level_holds q d h t)
level_grow q d zero s t f w = half_grow s t f (level d zero) w
level_grow q d (suc h) s t f w =
    joined_grow q (level_holds q d h s) (level_holds q d h t) _ _ (level_grow q d h s t f) (half_grow s t f (level d (suc h))) w

all_write : (d h : ℕ) → T (level_holds Write d h (λ c. true))
all_write d zero = half_all d zero
all_write d (suc h) = and_both (level_holds Write d h (λ c. true)) _ (all_write d h) (half_all d (suc h))

level_local : (q : Quorum) (d h n : ℕ) → last_copy d h 1 ≤ n → (s t : Copies) → Agree n s t → level_holds q d h s ≡ level_holds q d h t
level_local q d zero n l s t e = half_same n s t e (level d zero) (level_in d zero n l)
level_local q d (suc h) n l s t e =
    ap (λ b. joined q b (half_held s (level d (suc h)))) (level_local q d h n (omega (arith, last_rises d h)) s t e)
    ∙ ap (joined q (level_holds q d h t)) (half_same n s t e (level d (suc h)) (level_in d (suc h) n l))

level_serves : (q : Quorum) (d h : ℕ) (s : Copies) → Serves (level_holds q d h) s (level_choice q d h s)
level_serves q d zero s = half_serves s (level d zero)
level_serves q d (suc h) s = step q (level_choice q d h s) (half_choice s (level d (suc h))) (level_serves q d h s) (half_serves s (level d (suc h)))
  where
    step : (q : Quorum) (x y : Option (List ℕ)) → Serves (level_holds q d h) s x → Serves (λ t. half_held t (level d (suc h))) s y → Serves (level_holds q d (suc h)) s (choice_joined q x y)
    step Write None y v w = rw v refl
    step Write (Some l) None v w = rw w (and_false (level_holds Write d h s))
    step Write (Some l) (Some m) v w = (
      both_inside l m s v.0 w.0,
      and_both (level_holds Write d h (among (l ++ m))) _ (level_grow Write d h (among l) (among (l ++ m)) (among_left l m) v.1)
          (half_grow (among m) (among (l ++ m)) (among_right l m) (level d (suc h)) w.1),
    )
    step Read None None v w = rw (v, w) refl
    step Read None (Some m) v w = (w.0, or_right (level_holds Read d h (among m)) _ w.1)
    step Read (Some l) y v w = (v.0, or_left (level_holds Read d h (among l)) _ v.1)

module _ (d h : ℕ) where
  local : (q : Quorum) (s t : Copies) → Agree (copies_of d h) s t → level_holds q d h s ≡ level_holds q d h t
  local q s t e = level_local q d h (copies_of d h) (omega arith) s t e

  pub levels_lawful : copies_of d h ≤ 64 → Lawful (levels_rule d h)
  levels_lawful small = record {
    sized = (at_most_last d h 1, small);
    dual = λ s. read_or_write d h s ∙ ap not (local Write (λ c. not (s c)) (outside (copies_of d h) s) (outside_same (copies_of d h) s));
    meet = λ s t v w. (1, copy_from (copies_of d h) 1 (omega arith) (at_most_last d h 1), root_written d h s v, root_written d h t w);
    grow = λ q. grow_within (copies_of d h) (level_holds q d h) (local q) (level_grow q d h);
    all = all_write d h;
    choose = λ q reach. choose_listed (levels_rule d h) q (local q) reach (level_choice q d h (marked (copies_of d h) reach)) (level_serves q d h (marked (copies_of d h) reach));
  }

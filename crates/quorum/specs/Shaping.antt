-- What is known of an allowed tree: its degree is odd, and it has at most 57 copies.
use Rattle.std.specs.Prelude.{◌≡◌, ℕ, zero, suc, ◌+◌, ◌-◌, ◌*◌, ◌/◌, ◌<◌, ◌≤◌, true, ◌&&◌, T, ◌==◌, nat_le, refl}
use Rattle.std.proofs.Common.{sym, ap, subst, ◌∙◌, mul_comm, arith, eqb→eq, leb→le, lit≤}
use Rattle.families.proofs.Sets.{and_left, and_right, or_either}
use Rattle.families.proofs.TreeFamilies.{at_most_last}
use Rattle.families.specs.Trees.{copies_of, last_copy}
use Rattle.quorum.specs.Shapes.{allowed_tree}

one_shape : (P : ℕ → ℕ → Type 0) (b h k t : ℕ) → ((g : ℕ) → g ≤ t → P k g) → T (b == k && nat_le h t) → P b h
one_shape P b h k t f a =
    subst (λ x. P x h) (sym (eqb→eq b k (and_left (b == k) (nat_le h t) a))) (f h (leb→le h t (and_right (b == k) (nat_le h t) a)))

-- what holds of the four degrees holds of every allowed tree
by_shape : (P : ℕ → ℕ → Type 0) → ((g : ℕ) → g ≤ 3 → P 3 g) → ((g : ℕ) → g ≤ 2 → P 5 g) → ((g : ℕ) → g ≤ 2 → P 7 g) → ((g : ℕ) → g ≤ 1 → P 9 g) → (b h : ℕ) → allowed_tree b h ≡ true → P b h
by_shape P three five seven nine b h e =
    or_either (b == 3 && nat_le h 3) _ (one_shape P b h 3 3 three)
    (or_either (b == 5 && nat_le h 2) _ (one_shape P b h 5 2 five)
    (or_either (b == 7 && nat_le h 2) _ (one_shape P b h 7 2 seven) (one_shape P b h 9 1 nine)))
    (subst T (sym e) tt)

pub odd_degree : (b h : ℕ) → allowed_tree b h ≡ true → b ≡ 2 * (b / 2) + 1
odd_degree = by_shape (λ b h. b ≡ 2 * (b / 2) + 1) (λ g l. refl) (λ g l. refl) (λ g l. refl) (λ g l. refl)

up_to_one : (P : ℕ → Type 0) → P 0 → P 1 → (g : ℕ) → g ≤ 1 → P g
up_to_one P a b zero l = a
up_to_one P a b (suc zero) l = b
up_to_one P a b (suc (suc g)) l = absurd (omega arith)

up_to_two : (P : ℕ → Type 0) → P 0 → P 1 → P 2 → (g : ℕ) → g ≤ 2 → P g
up_to_two P a b c zero l = a
up_to_two P a b c (suc zero) l = b
up_to_two P a b c (suc (suc zero)) l = c
up_to_two P a b c (suc (suc (suc g))) l = absurd (omega arith)

up_to_three : (P : ℕ → Type 0) → P 0 → P 1 → P 2 → P 3 → (g : ℕ) → g ≤ 3 → P g
up_to_three P a b c d zero l = a
up_to_three P a b c d (suc g) l = up_to_two (λ n. P (suc n)) b c d g (omega arith)

pub low_degree : (b h : ℕ) → allowed_tree b h ≡ true → b / 2 ≤ 4
low_degree = by_shape (λ b h. b / 2 ≤ 4) (λ g l. lit≤ tt) (λ g l. lit≤ tt) (λ g l. lit≤ tt) (λ g l. lit≤ tt)

pub few_copies : (b h : ℕ) → allowed_tree b h ≡ true → copies_of (b / 2) h ≤ 57
few_copies =
    by_shape (λ b h. copies_of (b / 2) h ≤ 57)
    (up_to_three (λ g. copies_of 1 g ≤ 57) (lit≤ tt) (lit≤ tt) (lit≤ tt) (lit≤ tt))
    (up_to_two (λ g. copies_of 2 g ≤ 57) (lit≤ tt) (lit≤ tt) (lit≤ tt))
    (up_to_two (λ g. copies_of 3 g ≤ 57) (lit≤ tt) (lit≤ tt) (lit≤ tt))
    (up_to_one (λ g. copies_of 4 g ≤ 57) (lit≤ tt) (lit≤ tt))

-- one level more of the walk to the last copy
pub level_passed : (n d h i last b : ℕ) → b ≡ 2 * d + 1 → i < h → n ≡ last_copy d (h - i) last → n ≡ last_copy d (h - (i + 1)) (last * b + 1)
level_passed n d h i last b odd lt e =
    let left : h - i ≡ suc (h - (i + 1)) = omega arith in
    e ∙ ap (λ k. last_copy d k last) left
    ∙ ap (λ m. last_copy d (h - (i + 1)) (m + 1)) (ap (λ m. m * last) (sym odd) ∙ mul_comm b last)

-- no copy on the way is past the last
pub level_below : (n d k last : ℕ) → n ≡ last_copy d k last → last ≤ n
level_below n d k last e = omega (arith, e, at_most_last d k last)

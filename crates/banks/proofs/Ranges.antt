-- Numbers in a range.
use Rattle.std.proofs.Common.{◌≡◌, ℕ, ◌+◌, ◌*◌, ◌/◌, ◌%◌, ◌<◌, ◌≤◌, Bool, true, false, ◌&&◌, leb, sym, refl, ap, ◌∙◌, le-leb, leb-true}
use lib.Arith.{digits_div, digits_mod}
use Rattle.banks.specs.Limits.{allowed, between}

pub and_left : (a b : Bool) → (a && b) ≡ true → a ≡ true
and_left true b e = refl
and_left false b e = e

pub and_right : (a b : Bool) → (a && b) ≡ true → b ≡ true
and_right true b e = e
and_right false true e = refl
and_right false false e = e

pub from_low : (low high k : ℕ) → between low high k ≡ true → low ≤ k
from_low low high k e = leb-true low k (and_left (leb low k) (leb k high) e)

pub to_high : (low high k : ℕ) → between low high k ≡ true → k ≤ high
to_high low high k e = leb-true k high (and_right (leb low k) (leb k high) e)

pub is_between : (low high k : ℕ) → low ≤ k → k ≤ high → between low high k ≡ true
is_between low high k h l = rw (le-leb low k h, le-leb k high l) refl

module _ (kind n m : ℕ) (ok : allowed kind n m ≡ true) where
  rest : (between 1 64 n && between 1 48 m) ≡ true
  rest = and_right (between 1 4095 kind) (between 1 64 n && between 1 48 m) ok

  pub kind_in : between 1 4095 kind ≡ true
  kind_in = and_left (between 1 4095 kind) (between 1 64 n && between 1 48 m) ok

  pub stations_in : between 1 64 n ≡ true
  stations_in = and_left (between 1 64 n) (between 1 48 m) rest

  pub entries_in : between 1 48 m ≡ true
  entries_in = and_right (between 1 64 n) (between 1 48 m) rest

-- two numbers of two digits are the same only if their digits are
pub digits_same : (m i j i' j' : ℕ) → j < m → j' < m → i * m + j ≡ i' * m + j' → (i ≡ i') × (j ≡ j')
digits_same m i j i' j' h h' q =
    (sym (digits_div i h) ∙ ap (λ x. x / m) q ∙ digits_div i' h', sym (digits_mod i h) ∙ ap (λ x. x % m) q ∙ digits_mod i' h')

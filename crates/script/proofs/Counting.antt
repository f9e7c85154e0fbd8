-- How many elements pass a test.
use Rattle.std.proofs.Common.{◌≡◌, ◌+◌, Bool, true, false, cond, not, List, [], ◌∷◌, length, count_by, refl, arith}
use Rattle.std.proofs.lemmas.List.Sums.{sum_by-cons}

one_of : (b : Bool) → cond (not b) 1 0 + cond b 1 0 ≡ 1
one_of true = refl
one_of false = refl

-- those that do not pass, and those that do, are all
pub count_not : {A : Type 0} (test : A → Bool) (xs : List A) → count_by (λ a. not (test a)) xs + count_by test xs ≡ length xs
count_not test [] = refl
count_not test (x ∷ xs) =
    omega (arith, count_not test xs, one_of (test x), sum_by-cons (λ a. cond (test a) 1 0) x xs, sum_by-cons (λ a. cond (not (test a)) 1 0) x xs)

-- The words of a line, and what they write.
use Rattle.std.specs.Prelude.{◌≡◌, ℕ, ◌^◌, ◌<◌, List, [], ◌∷◌, map, length, Option, MatchOption, FitsSigned, slice_index_or}
use Rattle.std.specs.Borrow.{Bor}
use Rattle.std.specs.Int.{w32}
use Rattle.std.specs.List.{AllZip}
use Rattle.numbers.specs.Written.{Whole, Writes}
use Rattle.numbers.specs.declared.tenths.Tenths.{Tenths}

-- the texts that words are
abbrev pub texts : List (Bor (List ℕ)) → List (List ℕ)
texts ws = map (λ w. w.now) ws

-- the word at place i, counted from 0
abbrev pub word : ℕ → List (List ℕ) → List ℕ
word i ws = slice_index_or ws i []

-- the word writes a number in tenths, one that fits 32 bits
abbrev pub IsTenths : List ℕ → Tenths → Type 0
IsTenths w t = Writes w t.0 × FitsSigned w32 t.0

-- the word writes a whole number below 2^32
abbrev pub IsWhole : List ℕ → ℕ → Type 0
IsWhole w n = Whole w n × (n < 2 ^ 32)

-- the words write these whole numbers, one each
abbrev pub Wholes : List (List ℕ) → List ℕ → Type 0
Wholes ws ns = AllZip IsWhole ws ns

-- just n whole numbers
abbrev pub Numbers : ℕ → List (List ℕ) → List ℕ → Type 0
Numbers n ws ns = (length ns ≡ n) × Wholes ws ns

-- the name, and after it these whole numbers
abbrev pub Says : List (List ℕ) → List ℕ → List ℕ → Type 0
Says ws name ns = (rest : List (List ℕ)) × (ws ≡ name ∷ rest) × Wholes rest ns

-- what reading words answers: what they write, or nothing, where they write nothing
abbrev pub Tells : {A : Type 0} → (List (List ℕ) → A → Type 0) → List (List ℕ) → Option A → Type 0
Tells {A} writes ws r = MatchOption r ((a : A) → writes ws a → ⊥) (λ a. writes ws a)

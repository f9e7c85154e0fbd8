-- How numbers are written: which texts write which number.
use Rattle.std.specs.Prelude.{◌≡◌, ℕ, suc, ◌+◌, ◌*◌, ◌/◌, ◌%◌, ◌<◌, ◌⊎◌, List, [], ◌∷◌, ◌++◌, ℤ, pos, negsuc, neg_ℤ, decimal}
use Rattle.std.specs.Str.Parse.{IsNumeral, digits_value}

-- a whole number: decimal digits, or `0x` and hexadecimal digits
abbrev pub Whole : List ℕ → ℕ → Type 0
Whole text n =
    (IsNumeral 10 text × (n ≡ digits_value 10 text))
    ⊎ ((ds : List ℕ) × (text ≡ 48 ∷ (120 ∷ ds)) × IsNumeral 16 ds × (n ≡ digits_value 16 ds))

-- a size in tenths: a whole number, or decimal digits with a point and one more digit
abbrev pub Size : List ℕ → ℕ → Type 0
Size text n =
    ((w : ℕ) × Whole text w × (n ≡ 10 * w))
    ⊎ ((ds : List ℕ) × (d : ℕ) × (text ≡ ds ++ (46 ∷ ((48 + d) ∷ []))) × IsNumeral 10 ds × (d < 10) × (n ≡ 10 * digits_value 10 ds + d))

-- a number in tenths: a size, with or without a minus sign in front
abbrev pub Writes : List ℕ → ℤ → Type 0
Writes text z =
    ((n : ℕ) × Size text n × (z ≡ pos n))
    ⊎ ((rest : List ℕ) × (n : ℕ) × (text ≡ 45 ∷ rest) × Size rest n × (z ≡ neg_ℤ (pos n)))

-- the text that a size in tenths is shown as: always with one decimal place
abbrev pub size_text : ℕ → List ℕ
size_text n = decimal (n / 10) ++ (46 ∷ decimal (n % 10))

abbrev pub tenths_text : ℤ → List ℕ
tenths_text (pos n) = size_text n
tenths_text (negsuc n) = 45 ∷ size_text (suc n)

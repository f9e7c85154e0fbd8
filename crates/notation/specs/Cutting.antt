-- How a text is cut into lines, and a line into words.
use Rattle.std.specs.Prelude.{◌≡◌, ℕ, ◌<◌, ◌⊎◌, List, [], ◌∷◌, ◌++◌, length, ◌≢◌, slice_index}
use Rattle.std.specs.Str.Lines.{IsFirstLine}
use Rattle.std.specs.Str.{EmptyOrStartsWithPassing, NoCharPasses}
use Rattle.std.specs.Char.{is_not_whitespace, is_whitespace}

-- bs is white space, the word w, and rest, which is empty or begins with white space
pub record FirstWord (bs w rest : List ℕ) : Type 0 where
  pub gap : List ℕ
  pub cut : bs ≡ gap ++ (w ++ rest)
  pub blank : NoCharPasses is_not_whitespace gap
  pub some : 0 < length w
  pub solid : NoCharPasses is_whitespace w
  pub ends : (more : List ℕ) × EmptyOrStartsWithPassing is_whitespace rest more

-- ws are the words of bs: what stands between white space
abbrev pub Words : List ℕ → List (List ℕ) → Type 0
Words bs [] = NoCharPasses is_not_whitespace bs
Words bs (w ∷ ws) = (rest : List ℕ) × FirstWord bs w rest × Words rest ws

-- text is the line without its comment, which begins at the first #
abbrev pub Uncommented : List ℕ → List ℕ → Type 0
Uncommented line text =
    ((i : ℕ) → i < length text → slice_index text i ≢ 35)
    × ((line ≡ text) ⊎ ((comment : List ℕ) × (line ≡ text ++ (35 ∷ comment))))

-- ws are the words of the line, before any comment
abbrev pub LineWords : List ℕ → List (List ℕ) → Type 0
LineWords line ws = (text : List ℕ) × Uncommented line text × Words text ws

-- ls are the lines of the text
abbrev pub Lines : List ℕ → List (List ℕ) → Type 0
Lines text [] = length text ≡ 0
Lines text (l ∷ ls) = (rest : List ℕ) × (0 < length text) × IsFirstLine text l rest × Lines rest ls

-- Words that an image bank may keep: none, or those of an image.
use Rattle.std.specs.Prelude.{◌≡◌, ℕ, Bool, true, false, ◌||◌, List, [], ◌∷◌, length, Some, None, Option, ◌==◌}
use Rattle.banks.specs.Making.{empty_bank}
use Rattle.banks.specs.Meaning.{Meaning}
use Rattle.banks.specs.declared.fault.BankFault.{BankFault}
use Rattle.banks.specs.declared.record.Record.{Record}
use Rattle.words.specs.Checking.{check_fault}
use Rattle.words.specs.Format.{image, imaged, record_word}

abbrev pub is_none : Option BankFault → Bool
is_none None = true
is_none (Some f) = false

abbrev pub whole : List ℕ → Bool
whole ws = length ws == 0 || is_none (check_fault ws)

-- a bank of words that are an image means what they tell, and they are its image; else it is empty and tells why
abbrev pub OfWords : List ℕ → Meaning → Option BankFault → Type 0
OfWords ws b refusal = (refusal ≡ check_fault ws) × Kept ws b refusal
  where
    Kept : List ℕ → Meaning → Option BankFault → Type 0
    Kept ws b None = (b ≡ imaged ws) × (image b ≡ ws)
    Kept ws b (Some f) = b ≡ empty_bank

-- the words of a record
abbrev pub record_words : ℕ → Record → List ℕ
record_words e r = record_word e r 0 ∷ (record_word e r 1 ∷ (record_word e r 2 ∷ (record_word e r 3 ∷ (record_word e r 4 ∷ []))))

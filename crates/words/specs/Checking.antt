-- Which words are an image.
use Rattle.std.specs.Prelude.{◌≡◌, ℕ, ◌%◌, Bool, false, not, ◌&&◌, List, ◌∷◌, map, length, Option, ◌==◌, slice_index}
use Rattle.std.specs.List.{range_with_len}
use Rattle.banks.specs.Calls.{Cause, first}
use Rattle.banks.specs.Limits.{allowed}
use Rattle.banks.specs.declared.fault.BankFault.{BankFault}
use Rattle.banks.specs.declared.fault.BankFault.TheVariants.{Length, Word}
use Rattle.words.specs.Format.{image_word, imaged, kind_of, size, told_entries, told_kind, told_stations}

-- the word at a place is the one due there, for what the words tell, and tells no number 0
abbrev pub due : List ℕ → ℕ → Bool
due ws k = slice_index ws k == image_word (imaged ws) k && not (kind_of (slice_index ws k) == 3 && slice_index ws k % 65536 == 0)

abbrev pub no_words : List ℕ → Cause
no_words ws = record { met = (length ws == 0); told = Length 1 }

-- the first word has another kind, or tells of sizes that are not allowed
abbrev pub bad_head : ℕ → Cause
bad_head w = record { met = not (kind_of w == 1 && allowed (told_kind w) (told_stations w) (told_entries w)); told = Word 0 }

abbrev pub bad_length : List ℕ → ℕ → Cause
bad_length ws w = record { met = not (length ws == size (told_stations w) (told_entries w)); told = Length (size (told_stations w) (told_entries w)) }

-- the first word and the length are right
abbrev pub Headed : List ℕ → Type 0
Headed ws = ((no_words ws).met ≡ false) × ((bad_head (slice_index ws 0)).met ≡ false) × ((bad_length ws (slice_index ws 0)).met ≡ false)

abbrev pub bad_word : List ℕ → ℕ → Cause
bad_word ws k = record { met = not (due ws k); told = Word k }

-- why words are no image: the first cause in this order, the words after the first in turn
abbrev pub check_fault : List ℕ → Option BankFault
check_fault ws = first (no_words ws ∷ (bad_head (slice_index ws 0) ∷ (bad_length ws (slice_index ws 0) ∷ map (bad_word ws) (range_with_len 0 (length ws)))))

-- What reading a text as a script answers.
use Rattle.std.specs.Prelude.{◌≡◌, ℕ, ◌<◌, Bool, List, [], length, Ok, Err, vec_items, Option, Result}
use Rattle.std.specs.List.{AllZip}
use Rattle.notation.specs.Cutting.{LineWords, Lines}
use Rattle.notation.specs.Words.{Tells}
use Rattle.script.specs.Order.{bad_lines, calls_of}
use Rattle.script.specs.declared.line.Line.{Line}
use Rattle.script.specs.declared.reading.Script.{Script}
use Rattle.script.specs.declared.reading.Unread.{Unread}
use Rattle.script.specs.declared.reading.Unread.TheVariants.{Bad, Memory, Rule}

-- `means` tells which words mean what
module _ {M : Type 0} (means : List (List ℕ) → M → Type 0) where
  -- what the line means, by its words, or nothing where it means nothing
  abbrev pub ReadsLine : List ℕ → Option M → Type 0
  ReadsLine l o = (ws : List (List ℕ)) × LineWords l ws × Tells means ws o

  -- the same of each line of the text
  abbrev pub ReadsLines : List ℕ → List (Option M) → Type 0
  ReadsLines text os = (ls : List (List ℕ)) × Lines text ls × AllZip ReadsLine ls os

module _ {S C R N : Type 0} (same : S → S → Bool) (means : List (List ℕ) → Line S C → Type 0) (makes : List (Option (Line S C)) → Result R N → Type 0) where
  -- the lines of the text, none of them bad
  abbrev pub GoodLines : List ℕ → List (Option (Line S C)) → Type 0
  GoodLines text os = ReadsLines means text os × (bad_lines same [] os ≡ [])

  -- the rule and the calls in order; all the bad lines where one is bad; else why there is no such rule
  abbrev pub Reading : List ℕ → Result (Script R C) (Unread N) → Type 0
  Reading text (Ok s) = (os : List (Option (Line S C))) × GoodLines text os × makes os (Ok s.rule) × (vec_items s.calls ≡ calls_of os)
  Reading text (Err Memory) = Unit {0}
  Reading text (Err (Bad bad)) = (os : List (Option (Line S C))) × ReadsLines means text os × (vec_items bad ≡ bad_lines same [] os) × (0 < length (bad_lines same [] os))
  Reading text (Err (Rule n)) = (os : List (Option (Line S C))) × GoodLines text os × makes os (Err n)

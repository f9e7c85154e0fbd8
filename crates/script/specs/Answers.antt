-- How many calls were accepted, and how that is told.
use Rattle.std.specs.Prelude.{◌≡◌, ℕ, Bool, not, List, ◌++◌, length, count_by, codes, decimal}
use Rattle.script.specs.declared.answer.Summary.{Summary}

-- the summary counts all the answers, those that accept, and those that refuse
pub record Sums {A : Type 0} (accepted : A → Bool) (answers : List A) (s : Summary) : Type 0 where
  pub calls_is : s.calls ≡ length answers
  pub accepted_is : s.accepted ≡ count_by accepted answers
  pub refused_is : s.refused ≡ count_by (λ a. not (accepted a)) answers

-- as in `40 calls: 39 accepted, 1 refused`
abbrev pub summary_text : Summary → List ℕ
summary_text s = decimal s.calls ++ (codes " calls: " ++ (decimal s.accepted ++ (codes " accepted, " ++ (decimal s.refused ++ codes " refused"))))

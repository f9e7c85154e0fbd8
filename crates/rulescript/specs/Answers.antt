-- What the calls of a script answer, and how that is told.
use Rattle.std.specs.Prelude.{◌≡◌, ℕ, Bool, true, false, List, [], ◌∷◌, ◌++◌, Ok, Err, vec_items, codes, decimal, Result, Vec}
use Rattle.choosing.specs.Numbers.{Choice, no_choice_text}
use Rattle.choosing.specs.declared.NoChoice.{NoChoice}
use Rattle.families.specs.Meaning.{Meaning, quorum_name}
use Rattle.faults.specs.Line.{refusal_text, told}
use Rattle.rulescript.specs.declared.line.Call.{Call}
use Rattle.rulescript.specs.declared.line.Call.TheVariants as call
use Rattle.std.specs.declared.alloc.Global.{Global}
use Rattle.values.specs.Coding.{payloads_text}
use Rattle.values.specs.Faults.{value_line}
use Rattle.values.specs.declared.value.Payloads.{Payloads}
use Rattle.rulescript.specs.declared.answer.Answer.{Answer}
use Rattle.rulescript.specs.declared.answer.Answer.TheVariants as answer

-- a value is coded, and a value out of range is refused; a choice is the rule's
abbrev pub Answers : {V : Type 0} → Meaning → (V → Payloads) → Call V → Answer → Type 0
Answers m coded (call.Code (Ok v)) a = a ≡ answer.Code (Ok (coded v))
Answers m coded (call.Code (Err f)) a = a ≡ answer.Code (Err (told (value_line f)))
Answers m coded (call.Choose q away) (answer.Code r) = ⊥
Answers m coded (call.Choose q away) (answer.Choose p r) = (p ≡ q) × Choice m q (vec_items away) r

-- each number after a space
abbrev pub spaced : List ℕ → List ℕ
spaced [] = []
spaced (n ∷ ns) = codes " " ++ (decimal n ++ spaced ns)

-- the numbers of the copies chosen, or why there are none
abbrev pub chosen_text : Result (Vec ℕ Global) NoChoice → List ℕ
chosen_text (Ok copies) = spaced (vec_items copies)
chosen_text (Err none) = codes " " ++ no_choice_text none

-- as in `code: 10201234 9996898 10430010 20410`, `code: refused 20, value, place 1`, `choose read: 4 5 6`,
-- `choose write: refused 7, rule, place 0`
abbrev pub answer_text : Answer → List ℕ
answer_text (answer.Code (Ok p)) = codes "code: " ++ payloads_text p
answer_text (answer.Code (Err r)) = codes "code: " ++ refusal_text r
answer_text (answer.Choose q r) = (codes "choose " ++ (quorum_name q ++ codes ":")) ++ chosen_text r

abbrev pub accepted : Answer → Bool
accepted (answer.Code (Ok p)) = true
accepted (answer.Code (Err r)) = false
accepted (answer.Choose q (Ok copies)) = true
accepted (answer.Choose q (Err none)) = false

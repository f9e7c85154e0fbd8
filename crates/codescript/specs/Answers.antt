-- What the calls of a script answer, and how that is told.
use Rattle.std.specs.Prelude.{ℕ, Bool, true, false, List, ◌++◌, Ok, Err, codes}
use Rattle.codescript.specs.declared.answer.Answer.{Answer}
use Rattle.codescript.specs.declared.answer.Answer.TheVariants as answer
use Rattle.codescript.specs.declared.line.Call.{Call}
use Rattle.codescript.specs.declared.line.Call.TheVariants as call
use Rattle.faults.specs.Line.{refusal_text, told}
use Rattle.values.specs.Coding.{payloads_text}
use Rattle.values.specs.Faults.{value_line}
use Rattle.values.specs.declared.value.Payloads.{Payloads}

-- a value is coded, and a value out of range is refused
abbrev pub answered : {V : Type 0} → (V → Payloads) → Call V → Answer
answered coded (call.Code (Ok v)) = answer.Code (Ok (coded v))
answered coded (call.Code (Err f)) = answer.Code (Err (told (value_line f)))

abbrev pub answer_text : Answer → List ℕ
answer_text (answer.Code (Ok p)) = codes "code: " ++ payloads_text p
answer_text (answer.Code (Err r)) = codes "code: " ++ refusal_text r

abbrev pub accepted : Answer → Bool
accepted (answer.Code (Ok p)) = true
accepted (answer.Code (Err r)) = false

use Rattle.std.proofs.Common.{◌≡◌, ℕ, ◌<◌, length, get_or}
use Rattle.notation.specs.Words.{IsWhole, texts, word}
use Rattle.notation.proofs.words.read_numbers.Given as goal

-- the words so far are the numbers so far
abbrev pub invariant-loop-i : goal.invariant-loop-i
invariant-loop-i g l = (length l.numbers ≡ length l.words) × ((k : ℕ) → k < l.i → IsWhole (word k (texts l.words)) (get_or l.numbers k 0))

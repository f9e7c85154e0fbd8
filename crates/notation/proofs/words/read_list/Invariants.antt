use Rattle.std.proofs.Common.{take, vec_items}
use Rattle.notation.specs.Words.{Wholes, texts}
use Rattle.notation.proofs.words.read_list.Given as goal

-- the words so far write the numbers so far
abbrev pub invariant-loop-word : goal.invariant-loop-word
invariant-loop-word l = Wholes (texts (take l.word-index l.words)) (vec_items l.numbers)

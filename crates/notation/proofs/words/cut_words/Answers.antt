use Rattle.std.proofs.Common.{vec_items, subst}
use Rattle.std.specs.Str.Iter.{split_whitespace_rest, split_whitespace_steps}
use Rattle.std.proofs.lemmas.Result.{IfOk-weaker}
use Rattle.notation.specs.Cutting.{Words}
use Rattle.notation.specs.Words.{texts}
use Rattle.notation.proofs.Cutting.{words_from_collect}
use Rattle.notation.proofs.words.cut_words.Goals as goal

pub returns : goal.returns
returns c =
    IfOk-weaker c.collect.result _ _
    (λ v ws. (c.uncommented.result.now, c.uncommented.ensures, subst (λ bs. Words bs (texts (vec_items v))) c.split_whitespace.ensures.rest ws))
    (words_from_collect split_whitespace_steps split_whitespace_rest
    (λ s t x h. record { gap = h.0; cut = h.1; some = h.2; blank = h.3; solid = h.4; ends = h.5 })
    (λ s t h. h.1)
    c.split_whitespace.result c.collect.result c.collect.ensures.ran)

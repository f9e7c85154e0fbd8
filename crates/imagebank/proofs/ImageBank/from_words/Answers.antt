use Rattle.std.proofs.Common.{◌≡◌, vec_items, ap, ◌∙◌}
use Rattle.std.specs.Result.{result_err}
use Rattle.banks.specs.Calls.{answered}
use Rattle.words.specs.Checking.{check_fault}
use Rattle.imagebank.proofs.ImageBank.from_words.Goals as goal
use Rattle.imagebank.proofs.ImageBank.from_words.Goals.{else-is_some, then-is_some}
use Rattle.imagebank.proofs.Writes.{err_answer, of_words}

pub returns : goal.returns
returns c =
    let ws = vec_items c.args.words in
    let o = c.err-refusal.result in
    let fault : o ≡ check_fault ws =
    c.err-refusal.ensures.value ∙ ap result_err (c.check.ensures.told ∙ ap (λ l. answered (check_fault l) tt) c.as_slice.ensures.value) ∙ err_answer (check_fault ws) in
    elim c.if-is_some.branch [
      | then-is_some w ↦ of_words ws _ o fault (λ some. ap vec_items w.words-is ∙ w.clear.ensures.items) (λ none. absurd (cc (none, w.if-is_some.true, c.is_some.ensures)))
      | else-is_some w ↦ of_words ws _ o fault (λ some. absurd (cc (some, w.if-is_some.false, c.is_some.ensures))) (λ none. ap vec_items w.words-is)
    ]

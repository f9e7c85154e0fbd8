use Rattle.std.proofs.Common.{◌≡◌, ◌+◌, length, true, false, sym, ◌∙◌, rules, arith}
use Rattle.std.proofs.lemmas.Iterator.{first_from_Range}
use Rattle.places.specs.Places.{right}
use Rattle.places.proofs.Walks.{first_stop, named_once}
use Rattle.places.proofs.first_wrong.Goals as goal

pub returns : goal.returns
returns c =
    let ps = c.args.places.now in
    let stops = first_from_Range _ _ _ c.find.result (λ k. right ps k ≡ false) (λ k. right ps k ≡ true) c.find.ensures.ran (λ x q k. search rules) (λ x q k. (search rules, search rules)) in
    let wrong = first_stop (right ps) (length ps) 1 (length ps + 1) (omega arith) c.find.result stops in
    record { wrong = wrong; once = λ e. named_once ps (sym wrong ∙ e) }

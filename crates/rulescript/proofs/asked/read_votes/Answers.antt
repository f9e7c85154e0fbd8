use Rattle.std.proofs.Common.{◌∷◌, vec_items, ap, subst}
use Rattle.notation.specs.Words.{Wholes, texts}
use Rattle.rulescript.proofs.asked.read_votes.Goals as goal

pub returns-in_default-read_whole : goal.returns-in_default-read_whole
returns-in_default-read_whole c a h =
    let is = subst (λ ws. Wholes ws (a.0 ∷ vec_items a.1)) (ap texts c.in-Some.ensures.cases.0) h in
    c.in_default-read_whole.ensures a.0 is.0.1 is.0.0

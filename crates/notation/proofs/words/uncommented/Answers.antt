use Rattle.std.proofs.Common.{Some, None, refl, inl, inr, lit<}
use Rattle.std.proofs.lemmas.Str.Pattern.{split_parts}
use Rattle.notation.proofs.words.uncommented.Goals as goal

pub returns-in-Some : goal.returns-in-Some
returns-in-Some c =
    let cut = split_parts 35 c.args.line.now (Some (c.in-Some.text, c.in-Some.field-0-1)) c.in-Some.ensures.cases (lit< tt) in
    (cut.1, inr (c.in-Some.field-0-1.now, cut.0))

pub returns-in-None : goal.returns-in-None
returns-in-None c =
    let lacks = split_parts 35 c.args.line.now None c.in-None.ensures.cases (lit< tt) in
    (lacks, inl refl)

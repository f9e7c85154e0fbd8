use Rattle.std.proofs.Common.{◌≡◌, true, false, arith, rules, tests}
use Rattle.std.proofs.lemmas.Iterator.{first_from_Range}
use Rattle.std.proofs.lemmas.List.{get_or_read}
use Rattle.words.specs.Spots.{right_at}
use Rattle.words.proofs.layout.Layout.first_wrong.Goals as goal

pub returns : goal.returns
returns c =
    let ws = c.args.words.now in
    let m = c.args.self.now.sizes.entries in
    first_from_Range _ _ _ _ (λ k. right_at m ws k ≡ false) (λ k. right_at m ws k ≡ true) c.find.ensures.ran
    (λ x q k. grind (arith, tests, get_or_read))
    (λ x q k. (search rules, grind (arith, tests, get_or_read)))

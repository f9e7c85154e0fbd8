use Rattle.std.proofs.Common.{◌≡◌, ◌-◌, take, ◌∙◌, arith}
use Rattle.std.proofs.lemmas.Bool.Decides.{nat_tests}
use Rattle.families.specs.Copies.{among}
use Rattle.places.specs.Places.{place_of}
use Rattle.places.proofs.Walks.{among_any}
use Rattle.places.proofs.is_right.Goals as goal

pub returns-then-contains : goal.returns-then-contains
returns-then-contains c =
    let ps = c.args.places.now in
    let earlier = take (c.args.copy - 1) ps in
    let found : c.contains-then-contains.result ≡ among earlier (place_of ps c.args.copy) = c.contains-then-contains.ensures.value ∙ among_any earlier (place_of ps c.args.copy) in
    grind (arith, nat_tests)

use Rattle.std.proofs.Common.{not, ◌==◌, refl, rules}
use borrow.Author.Tests.{tests}
use Rattle.std.proofs.lemmas.Iterator.{YieldsList-from_map, YieldsList-from_range, YieldsList-from_slice, YieldsList-from_zip, items_from_collect}
use Rattle.std.proofs.lemmas.Iterator.Consumers.{YieldsList-at, YieldsList-from_filter}
use Rattle.choosing.proofs.Numbering.{numbers_named}
use Rattle.choosing.proofs.numbers_of.Goals as goal

pub returns : goal.returns
returns c =
    let choice = c.args.choice.now in
    rw (← numbers_named 64 choice c.requires)
    (items_from_collect _ c.collect.ensures.ran
    (YieldsList-from_map _ (λ p. p.0)
    (YieldsList-at c.map.ensures.source
    (YieldsList-from_filter _ (λ p. not (p.1 == 0))
    (YieldsList-at c.filter.ensures.source (YieldsList-from_zip (YieldsList-from_range 1 65 64 c.zip.ensures.first refl) (YieldsList-from_slice choice c.zip.ensures.second.0)))
    c.filter.ensures.closure (λ x b q k. search (rules, tests))))
    c.map.ensures.closure (λ x r q k. search rules)))

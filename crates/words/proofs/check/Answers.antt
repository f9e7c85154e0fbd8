use Rattle.std.proofs.Common.{sym, ap, rules}
use Rattle.banks.specs.Calls.{answered}
use Rattle.words.specs.Checking.{Headed}
use Rattle.words.proofs.Checks.{image_of_told}
use Rattle.words.proofs.Fits.{no_fault, word_fault}
use Rattle.words.proofs.check.Goals as goal

pub returns-in-Some-first_wrong-clause-told : goal.returns-in-Some-first_wrong-clause-told
returns-in-Some-first_wrong-clause-told c =
    let ws = c.args.words.now in
    let headed : Headed ws = search rules in
    ap (λ o. answered o tt) (sym (word_fault ws headed _ (ap (λ z. z.entries) c.told-layout.ensures) c.in-Some-first_wrong.place c.in-Some-first_wrong.ensures))

pub returns-in-None : goal.returns-in-None
returns-in-None c =
    let ws = c.args.words.now in
    let headed : Headed ws = search rules in
    let none = no_fault ws headed _ (ap (λ z. z.entries) c.told-layout.ensures) c.in-None.ensures in
    record { told = ap (λ o. answered o tt) (sym none); image = λ e. image_of_told ws none }

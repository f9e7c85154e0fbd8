use Rattle.std.proofs.Common.{◌≡◌, ℕ, List, take, IfOk, None, Ok, Err, Result, Vec, sym, ap, ◌∙◌, subst, inr}
use Rattle.families.specs.Meaning.{Meaning}
use Rattle.families.specs.declared.Quorum.{Quorum}
use Rattle.std.specs.declared.alloc.AllocError.{AllocError}
use Rattle.std.specs.declared.alloc.Global.{Global}
use Rattle.choosing.specs.Numbers.{Choice, Numbered, no_copy, reach_without}
use Rattle.choosing.specs.declared.NoChoice.{NoChoice}
use Rattle.choosing.proofs.choose_without.Goals as goal

chosen : (m : Meaning) (q : Quorum) (away reach : List ℕ) (r : Result (Result (Vec ℕ Global) NoChoice) AllocError) → no_copy m.n away ≡ None → reach ≡ reach_without m.n away → IfOk r (λ x. Numbered m q reach x) → IfOk r (λ x. Choice m q away x)
chosen m q away reach (Ok x) all e h = inr (all, subst (λ l. Numbered m q l x) e h)
chosen m q away reach (Err x) all e h = tt

pub returns-in-Ok : goal.returns-in-Ok
returns-in-Ok g c =
    let n = c.copies-n.result in
    let p = c.in-Ok.ensures in
    let m = g.R.Rule.meaning c.args.rule.now in
    let all : no_copy m.n c.args.away.now ≡ None = ap (λ k. no_copy k c.args.away.now) (sym c.copies-n.ensures) ∙ p.0 in
    let e : take n c.in-Ok.reach ≡ reach_without m.n c.args.away.now = p.1 ∙ ap (λ k. reach_without k c.args.away.now) c.copies-n.ensures in
    chosen m c.args.quorum c.args.away.now _ c.choose_numbers.result all e c.choose_numbers.ensures

use Rattle.std.proofs.Common.{◌≡◌, false, ◌||◌, length, refl, arith, rules}
use Rattle.std.proofs.lemmas.List.{get_or_past}
use Rattle.quorum.proofs.Marking.{made}
use Rattle.quorum.specs.Sets.{members}
use Rattle.quorum.proofs.copy_set.CopySet.add_all.Goals as goal

pub returns : goal.returns
returns c =
    let s = c.args.self.now in
    let t = c.args.other.now in
    let a : length s.marks ≡ 65 = search rules in
    let b : length t.marks ≡ 65 = search rules in
    made _ _ (λ k. members s k || members t k) (λ i y q call. search rules) _ 65
    (λ k past. rw (get_or_past s.marks k false (omega arith), get_or_past t.marks k false (omega arith)) refl) c.from_fn-self.ensures.items

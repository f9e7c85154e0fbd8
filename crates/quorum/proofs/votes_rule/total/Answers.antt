use Rattle.std.proofs.Common.{◌≡◌, ℕ, suc, ◌+◌, ◌*◌, ◌<◌, ◌≤◌, List, [], ◌∷◌, length, get_or, refl, sym, ap, ◌∙◌, arith, rules}
use Rattle.std.specs.List.{sum_by}
use Rattle.std.proofs.lemmas.List.Sums.{sum_by-cons}
use Rattle.std.proofs.lemmas.Iterator.{YieldsList-from_map, YieldsList-from_slice}
use Rattle.std.proofs.lemmas.Iterator.Consumers.{sum_by_from_yields_List}
use Rattle.families.specs.Copies.{everything}
use Rattle.families.specs.Votes.{votes_from}
use Rattle.quorum.proofs.votes_rule.total.Goals as goal

votes_from-everything : (n : ℕ) (votes : List ℕ) → votes_from n votes everything ≡ sum_by (λ v. v) votes
votes_from-everything n [] = refl
votes_from-everything n (v ∷ votes) = ap (λ m. v + m) (votes_from-everything (n + 1) votes) ∙ sym (sum_by-cons (λ v. v) v votes)

sum_by-small : (votes : List ℕ) → ((k : ℕ) → get_or votes k 0 < 256) → sum_by (λ v. v) votes ≤ 255 * length votes
sum_by-small [] small = omega arith
sum_by-small (v ∷ votes) small =
    let first : v < 256 = small 0 in
    omega (arith, sum_by-small votes (λ k. small (suc k)), sum_by-cons (λ v. v) v votes)

pub returns : goal.returns
returns c =
    let votes = c.args.votes.now in
    let all : c.sum.result ≡ sum_by (λ v. v) votes =
    sum_by_from_yields_List (λ v. v) votes c.map.result c.sum.result c.sum.ensures.ran
    (YieldsList-from_map _ (λ v. v) (YieldsList-from_slice votes cc) c.map.ensures.closure (λ x r q k. search rules)) in
    (all ∙ sym (votes_from-everything 1 votes), omega (arith, all, sum_by-small votes (λ k. (c.type_inv.votes k).fits), c.requires))

-- A rule whose choices are lists, and whose families look at the copies 1 to n only: what its laws follow from.
use Rattle.std.proofs.Common.{◌≡◌, ℕ, Bool, false, not, ◌&&◌, T, List, Some, None, Option, sym, subst, MatchOption}
use Rattle.std.specs.Option.{option_map}
use Rattle.families.specs.Copies.{Copies, Within, among, is_copy, marked, marks, outside}
use Rattle.families.specs.Meaning.{Chosen, Meaning}
use Rattle.families.specs.declared.Quorum.{Quorum}
use Rattle.families.proofs.Sets.{Inside, and_left, and_right, and_true, marked_marks, marks_clean}

-- what a choice is worth, of a family that is `enough`
abbrev pub Serves : (Copies → Bool) → Copies → Option (List ℕ) → Type 0
Serves enough s None = enough s ≡ false
Serves enough s (Some l) = Inside (among l) s × T (enough (among l))

-- sets that agree on the copies 1 to n
abbrev pub Agree : ℕ → Copies → Copies → Type 0
Agree n s t = (c : ℕ) → T (is_copy n c) → s c ≡ t c

-- the copies of the set from 1 to n
abbrev kept : ℕ → Copies → Copies
kept n s c = is_copy n c && s c

pub grow_within : (n : ℕ) (family : Copies → Bool) → ((s t : Copies) → Agree n s t → family s ≡ family t) → ((s t : Copies) → Inside s t → T (family s) → T (family t)) → (s t : Copies) → Within n s t → T (family s) → T (family t)
grow_within n family local grow s t w h =
    grow (kept n s) t (λ c k. w c (and_left (is_copy n c) _ k) (and_right (is_copy n c) _ k))
    (subst T (local s (kept n s) (λ c i. sym (and_true (is_copy n c) (s c) i))) h)

pub outside_same : (n : ℕ) (s : Copies) → Agree n (λ c. not (s c)) (outside n s)
outside_same n s c i = sym (and_true (is_copy n c) (not (s c)) i)

pub choose_listed : (m : Meaning) (q : Quorum) → ((s t : Copies) → Agree m.n s t → m.holds q s ≡ m.holds q t) → (reach : List ℕ) (x : Option (List ℕ)) → Serves (m.holds q) (marked m.n reach) x → MatchOption (option_map (λ l. marks m.n (among l)) x) (m.holds q (marked m.n reach) ≡ false) (Chosen m q reach)
choose_listed m q local reach None v = v
choose_listed m q local reach (Some l) v =
    let n = m.n in
    let same : Agree n (marked n (marks n (among l))) (among l) = λ c i. marked_marks n (among l) c i in
    record {
      clean = marks_clean n (among l);
      in_reach = λ c i k. v.0 c (subst T (same c i) k);
      enough = subst T (sym (local (marked n (marks n (among l))) (among l) same)) v.1;
    }

-- From a set that was chosen to the rule's choice.
use Rattle.std.proofs.Common.{◌≡◌, ℕ, List, length, Some, None, Ok, Err, Option, Result, sym, refl, ap, ◌∙◌, subst, MatchOption}
use mathlib.Core.Path.{fun_ext}
use Rattle.families.specs.Copies.{Copies, among, marked, marks}
use Rattle.families.specs.Meaning.{Chosen, Lawful, Meaning}
use Rattle.families.specs.declared.Quorum.{Quorum}
use Rattle.families.specs.declared.Quorum.TheVariants.{Read, Write}
use Rattle.std.specs.Option.{option_map}
use Rattle.quorum.specs.Choosing.{Chooses, Fitting, Gives, NoQuorum, Refuses, no_quorum}
use Rattle.quorum.specs.Sets.{Is, Same, members}
use Rattle.quorum.specs.declared.copy_set.CopySet.{CopySet}
use Rattle.quorum.specs.declared.fault.RuleFault.{RuleFault}
use Rattle.quorum.specs.declared.rule.Chosen as rule

refused : (m : Meaning) (q : Quorum) (reach before : List ℕ) → Fitting m reach before → NoQuorum m q reach → (f : RuleFault) → f ≡ no_quorum q → Refuses m q reach before f
refused m Read reach before fit none f e = subst (Refuses m Read reach before) (sym e) (fit, refl, none)
refused m Write reach before fit none f e = subst (Refuses m Write reach before) (sym e) (fit, refl, none)

pub given_chooses : (m : Meaning) → Lawful m → (q : Quorum) (reach before after : List ℕ) (set : Option CopySet) (x : Option (List ℕ)) → m.choice q reach ≡ option_map (λ l. marks m.n (among l)) x → Is set x → Fitting m reach before → (r : Result rule.Chosen RuleFault) → Gives q set before after r → Chooses m q reach before after r
given_chooses m law q reach before after None None e i fit (Ok c) g = absurd g
given_chooses m law q reach before after None None e i fit (Err f) g =
    (g.0, refused m q reach before fit (subst (λ y. MatchOption y (NoQuorum m q reach) (Chosen m q reach)) e (law.choose q reach)) f g.1)
given_chooses m law q reach before after None (Some l) e i fit r g = absurd i
given_chooses m law q reach before after (Some s) None e i fit r g = absurd i
given_chooses m law q reach before after (Some s) (Some l) e i fit (Ok c) g =
    (fit, e ∙ ap Some (sym (g ∙ ap (λ n. marks n (members s)) fit.1 ∙ ap (marks m.n) (fun_ext i))))
given_chooses m law q reach before after (Some s) (Some l) e i fit (Err f) g = absurd g

-- The lists fit, the reach marks are read as a set, and what the rule picks from that set is handed to the caller.
pub picked_chooses : (m : Meaning) → Lawful m → (q : Quorum) (pick : Copies → Option (List ℕ)) (reach before after : List ℕ) (s : CopySet) (set : Option CopySet) (r : Result rule.Chosen RuleFault) → ((l : List ℕ) → m.choice q l ≡ option_map (λ l. marks m.n (among l)) (pick (marked m.n l))) → Fitting m reach before → Same (members s) (marked (length reach) reach) → Is set (pick (members s)) → Gives q set before after r → Chooses m q reach before after r
picked_chooses m law q pick reach before after s set r e fit same i g =
    given_chooses m law q reach before after set (pick (marked m.n reach)) (e reach) (rw (fun_ext same, fit.0) at i) fit r g

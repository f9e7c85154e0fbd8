-- What the calls of a closed bank come to, by those of the bank below.
use Rattle.std.specs.Prelude.{◌≡◌, ℕ, Bool, true, false, cond, ◌⊎◌, List, Some, None, Ok, Err, Option, ◌==◌, refl}
use Rattle.std.proofs.Common.{inl, inr, sym, ap, ◌∙◌, eqb-true, arith}
use Rattle.std.proofs.lemmas.Bool.Decides.{nat_tests}
use Rattle.std.proofs.Math.Path.{fun_ext}
use Rattle.banks.proofs.Makings.{empty_lawful, made_if}
use Rattle.banks.specs.Calls.{altered, answered, reach_answer, reach_fault, reach_set, store_answer, store_fault, stored, with_cell, with_reach, with_station_reach}
use Rattle.banks.specs.Limits.{allowed, between}
use Rattle.banks.specs.Making.{settled}
use Rattle.banks.specs.Meaning.{Empty, Lawful, Meaning, Station}
use Rattle.banks.specs.declared.fault.BankFault.{BankFault}
use Rattle.banks.specs.declared.fault.BankFault.TheVariants.{Away}
use Rattle.banks.specs.declared.record.Record.{Record}
use Rattle.closing.specs.Closing.{barred, closed, closing, closing_fault, is_shut, shut_station}

-- what a call that is not barred has found
pub unbarred : (marks : List ℕ) (b : Meaning) (s e : ℕ) → Ok tt ≡ answered {A = Unit {0}} (barred marks b s e) tt → (between 1 b.n s ≡ true) × (is_shut marks s ≡ false)
unbarred marks b s e h = grind (arith, nat_tests)

altered_closed : (marks : List ℕ) (o : Option BankFault) (b x : Meaning) → closed marks (altered o b x) ≡ altered o (closed marks b) (closed marks x)
altered_closed marks None b x = refl
altered_closed marks (Some f) b x = refl

same_sizes : (marks : List ℕ) (o : Option BankFault) (b x : Meaning) → closing_fault marks x ≡ closing_fault marks b → closing_fault marks (altered o b x) ≡ closing_fault marks b
same_sizes marks None b x e = e
same_sizes marks (Some f) b x e = refl

module _ (marks : List ℕ) (b : Meaning) (s : ℕ) (here : between 1 (closing marks b).n s ≡ true) where
  made_bank : closing_fault marks b ≡ None
  made_bank = made_if (closing_fault marks b) (closed marks b) s here

  as_closed : closing marks b ≡ closed marks b
  as_closed = ap (λ o. settled o (closed marks b)) made_bank

  -- a call that altered the bank below
  through : (o : Option BankFault) (x : Meaning) → closing_fault marks x ≡ closing_fault marks b → closing marks (altered o b x) ≡ altered o (closing marks b) (closed marks x)
  through o x e =
      ap (λ p. settled p (closed marks (altered o b x))) (same_sizes marks o b x e ∙ made_bank)
      ∙ altered_closed marks o b x
      ∙ ap (λ c. altered o c (closed marks x)) (sym as_closed)

  open_either : (c : Bool) → (cond c shut_station (b.station s)).reach ≡ true → c ≡ false
  open_either true e = absurd (cc)
  open_either false e = refl

  -- a station in reach is not shut
  pub open_here : ((closing marks b).station s).reach ≡ true → is_shut marks s ≡ false
  open_here e = open_either (is_shut marks s) (ap (λ c. (c.station s).reach) (sym as_closed) ∙ e)

  module _ (unshut : is_shut marks s ≡ false) where
    same_store : (e : ℕ) (r : Record) → store_fault b s e r ≡ store_fault (closing marks b) s e r
    same_store e r = rw (as_closed, unshut) refl

    pub store_through : (e : ℕ) (r : Record) → (store_answer b s e r ≡ store_answer (closing marks b) s e r) × (closing marks (stored b s e r) ≡ stored (closing marks b) s e r)
    store_through e r = (
      ap (λ o. answered o tt) (same_store e r),
      through (store_fault b s e r) (with_cell b s e r) refl
          ∙ ap (λ o. altered o (closing marks b) (closed marks (with_cell b s e r))) (same_store e r)
          ∙ ap (λ c. altered (store_fault (closing marks b) s e r) (closing marks b) (with_cell c s e r)) (sym as_closed),
    )

    same_reach : reach_fault b s ≡ reach_fault (closing marks b) s
    same_reach = rw (as_closed, unshut) refl

    stands : (v : Bool) (t : ℕ) (c : Bool) → (t == s) ≡ c → cond (is_shut marks t) shut_station (cond c (with_station_reach (b.station t) v) (b.station t)) ≡ cond c (with_station_reach (cond (is_shut marks t) shut_station (b.station t)) v) (cond (is_shut marks t) shut_station (b.station t))
    stands v t true q = let same : t ≡ s = eqb-true t s q in rw (same, unshut) refl
    stands v t false q = refl

    reached : (v : Bool) → closed marks (with_reach b s v) ≡ with_reach (closed marks b) s v
    reached v = ap (λ f. record { kind = b.kind; n = b.n; m = b.m; station = f; cell = b.cell }) (fun_ext (λ t. stands v t (t == s) refl))

    pub reach_through : (v : Bool) → (reach_answer b s ≡ reach_answer (closing marks b) s) × (closing marks (reach_set b s v) ≡ reach_set (closing marks b) s v)
    reach_through v = (
      ap (λ o. answered o tt) same_reach,
      through (reach_fault b s) (with_reach b s v) refl
          ∙ ap (λ o. altered o (closing marks b) (closed marks (with_reach b s v))) same_reach
          ∙ ap (altered (reach_fault (closing marks b) s) (closing marks b)) (reached v ∙ ap (λ c. with_reach c s v) (sym as_closed)),
    )

  module _ (closed-there : is_shut marks s ≡ true) where
    away_there : (closing marks b).station s ≡ shut_station
    away_there = ap (λ c. c.station s) as_closed ∙ ap (λ t. cond t shut_station (b.station s)) closed-there

    pub store_shut : (e : ℕ) (r : Record) → between 1 (closing marks b).m e ≡ true → (Err (Away s) ≡ store_answer (closing marks b) s e r) × (closing marks b ≡ stored (closing marks b) s e r)
    store_shut e r h = (rw (here, h, away_there) refl, rw (here, h, away_there) refl)

-- the laws
closed_empty : (marks : List ℕ) (b : Meaning) → Empty b ⊎ (allowed b.kind b.n b.m ≡ true) → Empty (closed marks b) ⊎ (allowed b.kind b.n b.m ≡ true)
closed_empty marks b (inl e) = inl (record { no_kind = e.no_kind; no_stations = e.no_stations; no_entries = e.no_entries })
closed_empty marks b (inr e) = inr e

not_in_reach : (c : Bool) (x : Station) → (x.shut ≡ true → x.reach ≡ false) → (cond c shut_station x).shut ≡ true → (cond c shut_station x).reach ≡ false
not_in_reach true x h e = refl
not_in_reach false x h e = h e

settled_lawful : (marks : List ℕ) (b : Meaning) → Lawful b → (o : Option BankFault) → Lawful (settled o (closed marks b))
settled_lawful marks b laws None = record {
  sized = closed_empty marks b laws.sized;
  limits = laws.limits;
  closed = λ s. not_in_reach (is_shut marks s) (b.station s) (laws.closed s);
}
settled_lawful marks b laws (Some f) = empty_lawful

pub closing_lawful : (marks : List ℕ) (b : Meaning) → Lawful b → Lawful (closing marks b)
closing_lawful marks b laws = settled_lawful marks b laws (closing_fault marks b)

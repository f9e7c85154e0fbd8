-- What the calls of a placed bank come to, by those of the bank below.
use Rattle.std.specs.Prelude.{◌≡◌, ℕ, ◌≤◌, Bool, true, false, cond, ◌&&◌, ◌⊎◌, List, [], ◌∷◌, length, Some, None, Ok, Option, ◌==◌, refl}
use Rattle.std.proofs.Common.{inl, inr, sym, ap, subst, ◌∙◌, arith, eqb-true}
use Rattle.std.proofs.Math.Path.{fun_ext}
use Rattle.std.proofs.lemmas.Bool.{eqb-false}
use Rattle.banks.proofs.Causes.{station_found}
use Rattle.banks.proofs.Makings.{empty_lawful, made_if}
use Rattle.banks.specs.Calls.{altered, answered, asked_reach, fetch_fault, fetched, first, no_station, reach_answer, reach_fault, reach_set, store_answer, store_fault, stored, with_cell, with_reach, with_station_reach}
use Rattle.banks.specs.Limits.{allowed, between}
use Rattle.banks.specs.Making.{ill_fitting, layer_fault, no_record, no_station_there, nothing_below, settled}
use Rattle.banks.specs.Meaning.{Empty, Lawful, Meaning, Station}
use Rattle.banks.specs.declared.fault.BankFault.{BankFault}
use Rattle.banks.specs.declared.record.Record.{Record}
use Rattle.places.proofs.Walks.{named_once}
use Rattle.places.specs.Places.{Once, first_wrong, place_of}
use Rattle.std.proofs.lemmas.Bool.Decides.{nat_tests}
use Rattle.placement.specs.Placing.{misplaced, placed, placing, placing_fault, retold, retold_answer}

abbrev retold_fault : ℕ → Option BankFault → Option BankFault
retold_fault c None = None
retold_fault c (Some f) = Some (retold c f)

answer_retold : {A : Type 0} (c : ℕ) (o : Option BankFault) (x : A) → retold_answer c (answered o x) ≡ answered (retold_fault c o) x
answer_retold c None x = refl
answer_retold c (Some f) x = refl

altered_retold : (c : ℕ) (o : Option BankFault) (b x : Meaning) → altered o b x ≡ altered (retold_fault c o) b x
altered_retold c None b x = refl
altered_retold c (Some f) b x = refl

altered_placed : (places : List ℕ) (o : Option BankFault) (b x : Meaning) → placed places (altered o b x) ≡ altered o (placed places b) (placed places x)
altered_placed places None b x = refl
altered_placed places (Some f) b x = refl

same_sizes : (places : List ℕ) (o : Option BankFault) (b x : Meaning) → placing_fault places x ≡ placing_fault places b → placing_fault places (altered o b x) ≡ placing_fault places b
same_sizes places None b x e = e
same_sizes places (Some f) b x e = refl

-- a list that fits a bank is short
pub few_places : (l : ℕ) (b : Meaning) → Ok tt ≡ answered {A = Unit {0}} (layer_fault l b) tt → l ≤ 64
few_places l b e = grind (arith, nat_tests)

-- a list of places that was accepted
clear_list : (l : ℕ) (b : Meaning) (w : Option ℕ) → first (nothing_below b ∷ (ill_fitting l b ∷ (misplaced w ∷ []))) ≡ None → (l ≡ b.n) × (w ≡ None)
clear_list l b None e = (grind (arith, nat_tests), refl)
clear_list l b (Some c) e = absurd (grind (arith, nat_tests))

right_list : (places : List ℕ) (b : Meaning) → placing_fault places b ≡ None → (length places ≡ b.n) × Once places
right_list places b e = let p = clear_list (length places) b (first_wrong places) e in (p.0, named_once places p.1)

module _ (places : List ℕ) (b : Meaning) (c : ℕ) (here : between 1 b.n c ≡ true) (below : between 1 b.n (place_of places c) ≡ true) where
  reach_told : first (no_station (placed places b).n c ∷ []) ≡ retold_fault c (first (no_station b.n (place_of places c) ∷ []))
  reach_told = rw (here, below) refl

  fetch_told : (e : ℕ) → fetch_fault (placed places b) c e ≡ retold_fault c (fetch_fault b (place_of places c) e)
  fetch_told e = grind (arith, nat_tests)

  store_told : (e : ℕ) (r : Record) → store_fault (placed places b) c e r ≡ retold_fault c (store_fault b (place_of places c) e r)
  store_told e r = grind (arith, nat_tests)

  set_told : reach_fault (placed places b) c ≡ retold_fault c (reach_fault b (place_of places c))
  set_told = grind (arith, nat_tests)

-- one copy altered, and no other
module _ (places : List ℕ) (b : Meaning) (long : length places ≡ b.n) (once : Once places) (c : ℕ) (here : between 1 b.n c ≡ true) where
  below_in : (d : ℕ) → between 1 b.n d ≡ true → between 1 b.n (place_of places d) ≡ true
  below_in d h = subst (λ n. between 1 n (place_of places d) ≡ true) long (once.stations d (subst (λ n. between 1 n d ≡ true) (sym long) h))

  same_copy : (d : ℕ) → between 1 b.n d ≡ true → place_of places d ≡ place_of places c → d ≡ c
  same_copy d h e = once.apart d c (subst (λ n. between 1 n d ≡ true) (sym long) h) (subst (λ n. between 1 n c ≡ true) (sym long) here) e

  -- whether another copy is this one, by its station
  told_apart : (d : ℕ) (a t u : Bool) → between 1 b.n d ≡ a → (place_of places d == place_of places c) ≡ t → (d == c) ≡ u → a ≡ true → t ≡ u
  told_apart d a true true p q r h = refl
  told_apart d a false false p q r h = refl
  told_apart d a true false p q r h = absurd (eqb-false d c r (same_copy d (p ∙ h) (eqb-true (place_of places d) (place_of places c) q)))
  told_apart d a false true p q r h = absurd (eqb-false (place_of places d) (place_of places c) q (ap (place_of places) (eqb-true d c r)))

  not_here : (d : ℕ) → between 1 b.n d ≡ false → (u : Bool) → (d == c) ≡ u → u ≡ false
  not_here d h true q = sym here ∙ ap (between 1 b.n) (sym (eqb-true d c q)) ∙ h
  not_here d h false q = refl

  cell_placed : (e : ℕ) (r : Record) (d f : ℕ) (a : Bool) → between 1 b.n d ≡ a
      → cond a (cond (place_of places d == place_of places c && f == e) r (b.cell (place_of places d) f)) no_record ≡ cond (d == c && f == e) r (cond a (b.cell (place_of places d) f) no_record)
  cell_placed e r d f true p = ap (λ t. cond (t && f == e) r (b.cell (place_of places d) f)) (told_apart d true _ _ p refl refl refl)
  cell_placed e r d f false p = ap (λ t. cond (t && f == e) r no_record) (sym (not_here d p _ refl))

  pub cells_placed : (e : ℕ) (r : Record) → placed places (with_cell b (place_of places c) e r) ≡ with_cell (placed places b) c e r
  cells_placed e r = ap (λ f. record { kind = b.kind; n = b.n; m = b.m; station = (placed places b).station; cell = f }) (fun_ext (λ d. fun_ext (λ f. cell_placed e r d f (between 1 b.n d) refl)))

  station_placed : (v : Bool) (d : ℕ) (a : Bool) → between 1 b.n d ≡ a
      → cond a (cond (place_of places d == place_of places c) (with_station_reach (b.station (place_of places d)) v) (b.station (place_of places d))) no_station_there ≡ cond (d == c) (with_station_reach (cond a (b.station (place_of places d)) no_station_there) v) (cond a (b.station (place_of places d)) no_station_there)
  station_placed v d true p = ap (λ t. cond t (with_station_reach (b.station (place_of places d)) v) (b.station (place_of places d))) (told_apart d true _ _ p refl refl refl)
  station_placed v d false p = ap (λ t. cond t (with_station_reach no_station_there v) no_station_there) (sym (not_here d p _ refl))

  pub stations_placed : (v : Bool) → placed places (with_reach b (place_of places c) v) ≡ with_reach (placed places b) c v
  stations_placed v = ap (λ f. record { kind = b.kind; n = b.n; m = b.m; station = f; cell = (placed places b).cell }) (fun_ext (λ d. station_placed v d (between 1 b.n d) refl))

-- the calls
module _ (places : List ℕ) (b : Meaning) (c : ℕ) (there : between 1 (placing places b).n c ≡ true) where
  made : placing_fault places b ≡ None
  made = made_if (placing_fault places b) (placed places b) c there

  as_placed : placing places b ≡ placed places b
  as_placed = ap (λ o. settled o (placed places b)) made

  here : between 1 b.n c ≡ true
  here = ap (λ x. between 1 x.n c) (sym as_placed) ∙ there

  listed : (length places ≡ b.n) × Once places
  listed = right_list places b made

  below : between 1 b.n (place_of places c) ≡ true
  below = below_in places b listed.0 listed.1 c here c here

  -- an answer of the bank below, where its cause is that of this bank
  answer_here : {A : Type 0} (o p : Option BankFault) (x : A) → p ≡ retold_fault c o → retold_answer c (answered o x) ≡ answered p x
  answer_here o p x e = answer_retold c o x ∙ ap (λ q. answered q x) (sym e)

  -- a call that altered the bank below
  after_here : (o p : Option BankFault) (x y : Meaning) → p ≡ retold_fault c o → placing_fault places x ≡ placing_fault places b → placed places x ≡ y → placing places (altered o b x) ≡ altered p (placed places b) y
  after_here o p x y e sizes is =
      ap (λ q. settled q (placed places (altered o b x))) (same_sizes places o b x sizes ∙ made)
      ∙ altered_placed places o b x
      ∙ ap (altered o (placed places b)) is
      ∙ altered_retold c o (placed places b) y
      ∙ ap (λ q. altered q (placed places b) y) (sym e)

  pub asked_here : retold_answer c (asked_reach b (place_of places c)) ≡ asked_reach (placing places b) c
  asked_here = answer_here (first (no_station b.n (place_of places c) ∷ [])) (first (no_station b.n c ∷ [])) (b.station (place_of places c)).reach (reach_told places b c here below) ∙ rw (as_placed, here) refl

  pub fetched_here : (e : ℕ) → retold_answer c (fetched b (place_of places c) e) ≡ fetched (placing places b) c e
  fetched_here e =
      answer_here (fetch_fault b (place_of places c) e) (fetch_fault (placed places b) c e) (b.cell (place_of places c) e) (fetch_told places b c here below e)
      ∙ ap (λ t. answered (fetch_fault (placed places b) c e) (cond t (b.cell (place_of places c) e) no_record)) (sym here)
      ∙ ap (λ x. fetched x c e) (sym as_placed)

  pub stored_here : (e : ℕ) (r : Record) → (retold_answer c (store_answer b (place_of places c) e r) ≡ store_answer (placing places b) c e r) × (placing places (stored b (place_of places c) e r) ≡ stored (placing places b) c e r)
  stored_here e r = (
    answer_here (store_fault b (place_of places c) e r) (store_fault (placed places b) c e r) tt (store_told places b c here below e r) ∙ ap (λ x. store_answer x c e r) (sym as_placed),
    after_here (store_fault b (place_of places c) e r) (store_fault (placed places b) c e r) (with_cell b (place_of places c) e r) (with_cell (placed places b) c e r) (store_told places b c here below e r) refl (cells_placed places b listed.0 listed.1 c here e r)
        ∙ ap (λ x. stored x c e r) (sym as_placed),
  )

  pub reached_here : (v : Bool) → (retold_answer c (reach_answer b (place_of places c)) ≡ reach_answer (placing places b) c) × (placing places (reach_set b (place_of places c) v) ≡ reach_set (placing places b) c v)
  reached_here v = (
    answer_here (reach_fault b (place_of places c)) (reach_fault (placed places b) c) tt (set_told places b c here below) ∙ ap (λ x. reach_answer x c) (sym as_placed),
    after_here (reach_fault b (place_of places c)) (reach_fault (placed places b) c) (with_reach b (place_of places c) v) (with_reach (placed places b) c v) (set_told places b c here below) refl (stations_placed places b listed.0 listed.1 c here v)
        ∙ ap (λ x. reach_set x c v) (sym as_placed),
  )

-- the calls at the station below that was found for a copy
module _ (places : List ℕ) (b : Meaning) (c below : ℕ) (found : Ok below ≡ answered {A = ℕ} (first (no_station (placing places b).n c ∷ [])) (place_of places c)) where
  named : (between 1 (placing places b).n c ≡ true) × (below ≡ place_of places c)
  named = station_found (placing places b).n c (place_of places c) below found

  pub asked_below : retold_answer c (asked_reach b below) ≡ asked_reach (placing places b) c
  asked_below = ap (λ s. retold_answer c (asked_reach b s)) named.1 ∙ asked_here places b c named.0

  pub fetched_below : (e : ℕ) → retold_answer c (fetched b below e) ≡ fetched (placing places b) c e
  fetched_below e = ap (λ s. retold_answer c (fetched b s e)) named.1 ∙ fetched_here places b c named.0 e

  pub stored_below : (e : ℕ) (r : Record) → (retold_answer c (store_answer b below e r) ≡ store_answer (placing places b) c e r) × (placing places (stored b below e r) ≡ stored (placing places b) c e r)
  stored_below e r = let done = stored_here places b c named.0 e r in
      (ap (λ s. retold_answer c (store_answer b s e r)) named.1 ∙ done.0, ap (λ s. placing places (stored b s e r)) named.1 ∙ done.1)

  pub reached_below : (v : Bool) → (retold_answer c (reach_answer b below) ≡ reach_answer (placing places b) c) × (placing places (reach_set b below v) ≡ reach_set (placing places b) c v)
  reached_below v = let done = reached_here places b c named.0 v in
      (ap (λ s. retold_answer c (reach_answer b s)) named.1 ∙ done.0, ap (λ s. placing places (reach_set b s v)) named.1 ∙ done.1)

-- the laws
placed_sized : (places : List ℕ) (b : Meaning) → Empty b ⊎ (allowed b.kind b.n b.m ≡ true) → Empty (placed places b) ⊎ (allowed b.kind b.n b.m ≡ true)
placed_sized places b (inl e) = inl (record { no_kind = e.no_kind; no_stations = e.no_stations; no_entries = e.no_entries })
placed_sized places b (inr e) = inr e

not_in_reach : (a : Bool) (x : Station) → (x.shut ≡ true → x.reach ≡ false) → (cond a x no_station_there).shut ≡ true → (cond a x no_station_there).reach ≡ false
not_in_reach true x h e = h e
not_in_reach false x h e = refl

settled_lawful : (places : List ℕ) (b : Meaning) → Lawful b → (o : Option BankFault) → placing_fault places b ≡ o → Lawful (settled o (placed places b))
settled_lawful places b laws None made =
    let listed = right_list places b made in
    record {
      sized = placed_sized places b laws.sized;
      limits = λ c e hc he. rw hc (laws.limits (place_of places c) e (below_in places b listed.0 listed.1 c hc c hc) he);
      closed = λ c. not_in_reach (between 1 b.n c) (b.station (place_of places c)) (laws.closed (place_of places c));
    }
settled_lawful places b laws (Some f) made = empty_lawful

pub placing_lawful : (places : List ℕ) (b : Meaning) → Lawful b → Lawful (placing places b)
placing_lawful places b laws = settled_lawful places b laws (placing_fault places b) refl

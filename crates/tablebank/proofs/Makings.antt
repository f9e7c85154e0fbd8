-- A table that is made row by row.
use Rattle.std.proofs.Common.{◌≡◌, ℕ, ◌+◌, Bool, true, false, cond, ◌||◌, ◌&&◌, ◌==◌, List, [], ◌∷◌, ◌++◌, length, get_or, map, replicate, Some, None, Ok, Err, Result, vec_items, sym, refl, ap, ◌∙◌, arith, ne_eqb}
use Rattle.banks.proofs.Makings.{is_new}
use Rattle.banks.proofs.Ranges.{from_low, stations_in}
use Rattle.banks.specs.Limits.{allowed, allowed_sizes, first_record}
use Rattle.banks.specs.Making.{NewBank, new_bank, sizes_for}
use Rattle.banks.specs.declared.fault.BankFault.{BankFault}
use Rattle.banks.specs.declared.fault.BankFault.TheVariants as fault
use Rattle.banks.specs.declared.record.Kept.{Kept}
use Rattle.banks.specs.declared.record.Sizes.{Sizes}
use Rattle.std.proofs.lemmas.List.{get_or-map, get_or-replicate, length-map, length-replicate, map-append, replicate-append-replicate}
use Rattle.std.specs.List.{All}
use Rattle.tablebank.specs.Table.{HasEntries, kept, reaches, sound_sizes, table_refusal, tabled}
use Rattle.tablebank.specs.Tables.{new_table}
use Rattle.tablebank.specs.declared.Row.{Row}
use Rattle.values.specs.declared.value.Payloads.{Payloads}

pub one_more : {X Y : Type 0} (f : X → Y) (xs : List X) (x : X) (n : ℕ) (y : Y) → map f xs ≡ replicate n y → f x ≡ y → map f (xs ++ x ∷ []) ≡ replicate (n + 1) y
one_more f xs x n y e q = map-append f xs (x ∷ []) ∙ ap (λ l. l ++ f x ∷ []) e ∙ ap (λ z. replicate n y ++ z ∷ []) q ∙ replicate-append-replicate n 1 y

given_either : (z w : Sizes) (b : Bool) → Ok z ≡ cond {A = Result Sizes BankFault} b (Ok w) (Err fault.Sizes) → (b ≡ true) × (z ≡ w)
given_either z w true h = (refl, cc)
given_either z w false h = absurd (cc)

module _ (kind n m : ℕ) (z : Sizes) (given : Ok z ≡ sizes_for kind n m) where
  allowed_here : (allowed kind n m ≡ true) × (z ≡ record { kind = kind; stations = n; entries = m })
  allowed_here = given_either z (record { kind = kind; stations = n; entries = m }) (allowed kind n m) given

  pub sound_here : sound_sizes z ≡ true
  sound_here = ap (λ b. b || (z.kind == 0 && (z.stations == 0 && z.entries == 0))) (ap allowed_sizes allowed_here.1 ∙ allowed_here.0)

  pub table_made : (blank : Payloads) (k : Kept) (rows : List Row) → k.plain ≡ first_record blank → reaches rows ≡ replicate z.stations true → kept rows ≡ replicate z.stations (replicate z.entries k) → NewBank kind blank n m (tabled z rows) (table_refusal z)
  table_made blank k rows is e f =
      let some = from_low 1 64 n (stations_in kind n m allowed_here.0) in
      let same = ap (λ y. y.stations) allowed_here.1 in
      is_new kind blank n m (tabled z rows) (table_refusal z) allowed_here.0
      (new_table z blank k rows is e f ∙ ap (λ y. new_bank y.kind blank y.stations y.entries) allowed_here.1)
      (ap (λ t. cond t (Some fault.Sizes) None) (ne_eqb z.stations 0 (λ q. omega (arith, some, same, q))))

-- the rows of a new table
module _ (n m : ℕ) (k : Kept) (rows : List Row) where
  pub rows_made : reaches rows ≡ replicate n true → length rows ≡ n
  rows_made e = omega (arith, simp length-map at (ap length e), length-replicate n true)

  pub rows_full : length rows ≡ n → kept rows ≡ replicate n (replicate m k) → All (HasEntries m) rows
  rows_full long e i d here =
      let r = get_or rows i d in
      let items : vec_items r.records ≡ replicate m k = sym (get_or-map (λ x. vec_items x.records) rows i d [] here) ∙ ap (λ l. get_or l i []) e ∙ get_or-replicate n i (replicate m k) [] (omega arith) in
      omega (arith, r.records.ok.0, ap length items, length-replicate m k)

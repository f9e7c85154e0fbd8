-- What a table means, new and after a change.
use Rattle.std.specs.Prelude.{◌≡◌, ℕ, ◌-◌, ◌*◌, ◌<◌, Bool, true, false, cond, ◌&&◌, ◌||◌, T, ◌≢◌, ◌⊎◌, List, [], length, get_or, replicate, ◌==◌, slice_index_or, slice_set, vec_items, vec_len, refl}
use Rattle.std.proofs.Common.{inl, inr, sym, ap, subst, ◌∙◌, arith, eqb-true, get_or-set_other, get_or-set_same}
use Rattle.std.proofs.Math.Path.{fun_ext}
use Rattle.std.proofs.Math.Arith.{digits_lt}
use Rattle.std.proofs.lemmas.Bool.{eqb-false}
use Rattle.std.proofs.lemmas.List.{get_or-map, get_or-replicate, length-map, map-set}
use Rattle.std.proofs.Math.Seq.{map-set_same}
use Rattle.std.specs.List.{All}
use Rattle.std.specs.Vec.{with_item}
use Rattle.banks.proofs.Ranges.{digits_same, from_low, to_high}
use Rattle.banks.specs.Calls.{with_cell, with_reach, with_station_reach}
use Rattle.banks.specs.Limits.{allowed_sizes, between, first_record}
use Rattle.banks.specs.Making.{new_bank, no_record, no_station_there}
use Rattle.banks.specs.Meaning.{Empty, Lawful, Meaning, Station}
use Rattle.banks.specs.declared.record.Kept.{Kept}
use Rattle.banks.specs.declared.record.Record.{Record}
use Rattle.banks.specs.declared.record.Sizes.{Sizes}
use Rattle.values.specs.declared.value.Payloads.{Payloads}
use Rattle.tablebank.specs.Table.{HasEntries, kept, kept_at, past, place, reaches, sound_sizes, stands, tabled}
use Rattle.tablebank.specs.declared.Row.{Row}

abbrev bank : Sizes → (ℕ → Station) → (ℕ → ℕ → Record) → Meaning
bank z station cell = record { kind = z.kind; n = z.stations; m = z.entries; station = station; cell = cell }

pub place_inside : (n m s e : ℕ) → between 1 n s ≡ true → between 1 m e ≡ true → place m s e < n * m
place_inside n m s e hs he =
    let a = from_low 1 n s hs in let b = to_high 1 n s hs in let c = from_low 1 m e he in let d = to_high 1 m e he in
    digits_lt {q = s - 1} {m = n} {r = e - 1} {c = m} (omega arith) (omega arith)

-- no two records stand at one place
pub place_other : (n m s e : ℕ) → between 1 n s ≡ true → between 1 m e ≡ true → (t f : ℕ) → between 1 n t ≡ true → between 1 m f ≡ true → place m t f ≡ place m s e → (t ≡ s) × (f ≡ e)
place_other n m s e hs he t f ht hf q =
    let a = from_low 1 n s hs in let b = from_low 1 m e he in let c = to_high 1 m e he in
    let d = from_low 1 n t ht in let g = from_low 1 m f hf in let h = to_high 1 m f hf in
    let same = digits_same m (t - 1) (f - 1) (s - 1) (e - 1) (omega arith) (omega arith) q in
    (omega (arith, same.0), omega (arith, same.1))

-- a number in a range is one more than its index
module _ (n k : ℕ) (h : between 1 n k ≡ true) where
  pub index_inside : k - 1 < n
  index_inside = let low = from_low 1 n k h in let high = to_high 1 n k h in omega arith

  index_other : (l : ℕ) → between 1 n l ≡ true → (l == k) ≡ false → l - 1 ≢ k - 1
  index_other l g e q = let low = from_low 1 n k h in let low-l = from_low 1 n l g in eqb-false l k e (omega (arith, q))

new_stands : (n s : ℕ) (b : Bool) → between 1 n s ≡ b → cond b (record { reach = slice_index_or (replicate n true) (s - 1) false; shut = false }) no_station_there ≡ cond b (record { reach = true; shut = false }) no_station_there
new_stands n s true e = ap (λ r. record { reach = r; shut = false }) (get_or-replicate n (s - 1) true false (index_inside n s e))
new_stands n s false e = refl

new_kept : (n m s e : ℕ) (k : Kept) (a b : Bool) → between 1 n s ≡ a → between 1 m e ≡ b → cond (a && b) (get_or (get_or (replicate n (replicate m k)) (s - 1) []) (e - 1) past).plain no_record ≡ cond (a && b) k.plain no_record
new_kept n m s e k true true p q =
    ap (λ row. (get_or row (e - 1) past).plain) (get_or-replicate n (s - 1) (replicate m k) [] (index_inside n s p))
    ∙ ap (λ x. x.plain) (get_or-replicate m (e - 1) k past (index_inside m e q))
new_kept n m s e k true false p q = refl
new_kept n m s e k false b p q = refl

pub new_table : (z : Sizes) (blank : Payloads) (k : Kept) (rows : List Row) → k.plain ≡ first_record blank → reaches rows ≡ replicate z.stations true → kept rows ≡ replicate z.stations (replicate z.entries k) → tabled z rows ≡ new_bank z.kind blank z.stations z.entries
new_table z blank k rows is e f =
    let n = z.stations in let m = z.entries in
    ap (λ l. bank z (stands n l) (kept_at n m (kept rows))) e
    ∙ ap (λ l. bank z (stands n (replicate n true)) (kept_at n m l)) f
    ∙ ap (λ station. bank z station (kept_at n m (replicate n (replicate m k)))) (fun_ext (λ s. new_stands n s (between 1 n s) refl))
    ∙ ap (bank z _) (fun_ext (λ s. fun_ext (λ e. new_kept n m s e k (between 1 n s) (between 1 m e) refl refl ∙ ap (λ r. cond (between 1 n s && between 1 m e) r no_record) is)))

-- one record replaced
module _ (n m s e : ℕ) (hs : between 1 n s ≡ true) (he : between 1 m e ≡ true) (table : List (List Kept)) (k : Kept) where
  abbrev row : List Kept
  row = get_or table (s - 1) []

  abbrev pub replaced : List (List Kept)
  replaced = slice_set table (s - 1) (slice_set row (e - 1) k)

  module _ (in_table : s - 1 < length table) (in_row : e - 1 < length row) where
    kept_set : (t f : ℕ) (a b c d : Bool) → between 1 n t ≡ a → between 1 m f ≡ b → (t == s) ≡ c → (f == e) ≡ d
        → cond (a && b) (get_or (get_or replaced (t - 1) []) (f - 1) past).plain no_record ≡ cond (c && d) k.plain (cond (a && b) (get_or (get_or table (t - 1) []) (f - 1) past).plain no_record)
    kept_set t f a b true true p q x y =
        let ts : t ≡ s = eqb-true t s x in
        let fe : f ≡ e = eqb-true f e y in
        let pa : a ≡ true = sym p ∙ rw ts hs in
        let pb : b ≡ true = sym q ∙ rw fe he in
        rw (pa, pb, ts, fe, get_or-set_same, get_or-set_same) refl
    kept_set t f a true true false p q x y =
        let ts : t ≡ s = eqb-true t s x in
        let ne = index_other m e he f q y in
        rw (ts, get_or-set_same, get_or-set_other) refl
    kept_set t f true true false d p q x y =
        let ne = index_other n s hs t p x in
        rw get_or-set_other refl
    kept_set t f true false true false p q x y = refl
    kept_set t f true false false d p q x y = refl
    kept_set t f false b true false p q x y = refl
    kept_set t f false b false d p q x y = refl

-- one station made in reach, or away
stands_set : (n s : ℕ) (reach : List Bool) (v : Bool) → between 1 n s ≡ true → s - 1 < length reach → (t : ℕ) (a c : Bool) → between 1 n t ≡ a → (t == s) ≡ c
    → cond a (record { reach = slice_index_or (slice_set reach (s - 1) v) (t - 1) false; shut = false }) no_station_there ≡ cond c (with_station_reach (cond a (record { reach = slice_index_or reach (t - 1) false; shut = false }) no_station_there) v) (cond a (record { reach = slice_index_or reach (t - 1) false; shut = false }) no_station_there)
stands_set n s reach v hs inside t a true p x =
    let ts : t ≡ s = eqb-true t s x in
    let pa : a ≡ true = sym p ∙ rw ts hs in
    rw (pa, ts, get_or-set_same) refl
stands_set n s reach v hs inside t true false p x =
    let ne = index_other n s hs t p x in
    rw get_or-set_other refl
stands_set n s reach v hs inside t false false p x = refl

-- the rows of a table, and the row of one of its stations
module _ (z : Sizes) (rows : List Row) (s : ℕ) (hs : between 1 z.stations s ≡ true) (in_rows : s - 1 < length rows) (row : Row) (is : row ≡ get_or rows (s - 1) row) where
  records_here : vec_items row.records ≡ get_or (kept rows) (s - 1) []
  records_here = ap (λ r. vec_items r.records) is ∙ sym (get_or-map (λ r. vec_items r.records) rows (s - 1) row [] in_rows)

  pub entry_here : All (HasEntries z.entries) rows → (e : ℕ) → between 1 z.entries e ≡ true → e - 1 < vec_len row.records
  entry_here full e he =
      let wide : vec_len row.records ≡ z.entries = ap (λ r. vec_len r.records) is ∙ full (s - 1) row in_rows in
      omega (arith, index_inside z.entries e he, wide)

  pub table_stored : (e : ℕ) (k : Kept) (r : Record) → between 1 z.entries e ≡ true → e - 1 < vec_len row.records → k.plain ≡ r
      → tabled z (slice_set rows (s - 1) (record { reach = row.reach; records = with_item row.records (e - 1) k })) ≡ with_cell (tabled z rows) s e r
  table_stored e k r he inside same =
      let n = z.stations in let m = z.entries in
      let after : Row = record { reach = row.reach; records = with_item row.records (e - 1) k } in
      let in_row : e - 1 < length (get_or (kept rows) (s - 1) []) = subst (λ l. e - 1 < length l) records_here (omega (arith, inside, row.records.ok.0)) in
      ap (λ l. bank z (stands n l) (kept_at n m (kept (slice_set rows (s - 1) after)))) (map-set_same (λ r. r.reach) rows (s - 1) after row (ap (λ r. r.reach) is))
      ∙ ap (λ l. bank z (stands n (reaches rows)) (kept_at n m l)) (map-set (λ r. vec_items r.records) rows (s - 1) after ∙ ap (λ l. slice_set (kept rows) (s - 1) (slice_set l (e - 1) k)) records_here)
      ∙ ap (bank z (stands n (reaches rows))) (fun_ext (λ t. fun_ext (λ f.
      kept_set n m s e hs he (kept rows) k (simp length-map in_rows) in_row t f (between 1 n t) (between 1 m f) (t == s) (f == e) refl refl refl refl
      ∙ ap (λ x. cond (t == s && f == e) x (kept_at n m (kept rows) t f)) same)))

  pub table_reached : (v : Bool) → tabled z (slice_set rows (s - 1) (record { reach = v; records = row.records })) ≡ with_reach (tabled z rows) s v
  table_reached v =
      let n = z.stations in let m = z.entries in
      let after : Row = record { reach = v; records = row.records } in
      ap (λ l. bank z (stands n l) (kept_at n m (kept (slice_set rows (s - 1) after)))) (map-set (λ r. r.reach) rows (s - 1) after)
      ∙ ap (λ l. bank z (stands n (slice_set (reaches rows) (s - 1) v)) (kept_at n m l)) (map-set_same (λ r. vec_items r.records) rows (s - 1) after row (ap (λ r. vec_items r.records) is))
      ∙ ap (λ station. bank z station (kept_at n m (kept rows))) (fun_ext (λ t. stands_set n s (reaches rows) v hs (simp length-map in_rows) t (between 1 n t) (t == s) refl refl))

-- the laws
sound_either : (z : Sizes) (rows : List Row) (a c d e : Bool) → allowed_sizes z ≡ a → (z.kind == 0) ≡ c → (z.stations == 0) ≡ d → (z.entries == 0) ≡ e → (a || (c && (d && e))) ≡ true → Empty (tabled z rows) ⊎ (allowed_sizes z ≡ true)
sound_either z rows true c d e p q r t h = inr p
sound_either z rows false true true true p q r t h = inl (record { no_kind = eqb-true z.kind 0 q; no_stations = eqb-true z.stations 0 r; no_entries = eqb-true z.entries 0 t })
sound_either z rows false true true false p q r t h = absurd (subst T (sym h) tt)
sound_either z rows false true false e p q r t h = absurd (subst T (sym h) tt)
sound_either z rows false false d e p q r t h = absurd (subst T (sym h) tt)

pub never_shut : (n : ℕ) (reach : List Bool) (s : ℕ) (a : Bool) → (cond a (record { reach = slice_index_or reach (s - 1) false; shut = false }) no_station_there).shut ≡ false
never_shut n reach s true = refl
never_shut n reach s false = refl

pub table_lawful : (z : Sizes) (rows : List Row) → sound_sizes z ≡ true → Lawful (tabled z rows)
table_lawful z rows sound = record {
  sized = sound_either z rows (allowed_sizes z) (z.kind == 0) (z.stations == 0) (z.entries == 0) refl refl refl refl sound;
  limits = λ s e hs he. rw (hs, he) (get_or (get_or (kept rows) (s - 1) []) (e - 1) past).fits;
  closed = λ s h. absurd (subst T (sym h ∙ never_shut z.stations (reaches rows) s (between 1 z.stations s)) tt);
}

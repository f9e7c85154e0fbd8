-- Banks that an image can keep stay so.
use Rattle.std.proofs.Common.{◌≡◌, ℕ, Bool, true, false, cond, ◌&&◌, T, eqb, sym, refl, ◌∙◌, subst, inr, arith}
use Rattle.std.proofs.lemmas.Bool.Decides.{nat_tests}
use Rattle.banks.specs.Calls.{with_cell, with_reach}
use Rattle.banks.specs.Limits.{allowed, between, first_record, within}
use Rattle.banks.specs.Making.{new_bank, no_record, no_station_there}
use Rattle.banks.specs.Meaning.{Lawful, Meaning}
use Rattle.banks.specs.declared.record.Record.{Record}
use Rattle.values.specs.declared.value.Payloads.{Payloads}
use Rattle.words.proofs.Images.{Plain, plain_station}

module _ (b : Meaning) (plain : Plain b) where
  pub unshut : (s : ℕ) → (b.station s).shut ≡ false
  unshut s = let stands = plain.stations s in grind (arith, nat_tests)

  pub plain_lawful : Lawful b
  plain_lawful = record { sized = inr plain.sized; limits = plain.limits; closed = λ s h. absurd (subst T (sym h ∙ unshut s) tt) }

  module _ (s : ℕ) (hs : between 1 b.n s ≡ true) where
    module _ (e : ℕ) (r : Record) (he : between 1 b.m e ≡ true) (fits : within r ≡ true) where
      limits_with : (t d : ℕ) → within (b.cell t d) ≡ true → within ((with_cell b s e r).cell t d) ≡ true
      limits_with t d ok = by (eqb t s && eqb d e)
        where
          by : (x : Bool) → within (cond x r (b.cell t d)) ≡ true
          by true = fits
          by false = ok

      cells_with : (t d : ℕ) → (between 1 b.n t && between 1 b.m d) ≡ false → (with_cell b s e r).cell t d ≡ no_record
      cells_with t d out = let empty = plain.cells t d out in grind (arith, nat_tests)

      pub plain_cell : Plain (with_cell b s e r)
      plain_cell = record {
        sized = plain.sized;
        limits = λ t d ht hd. limits_with t d (plain.limits t d ht hd);
        stations = plain.stations;
        cells = cells_with;
      }

    stations_with : (v : Bool) (t : ℕ) → (with_reach b s v).station t ≡ cond (between 1 b.n t) (record { reach = ((with_reach b s v).station t).reach; shut = false }) no_station_there
    stations_with v t = let stands = plain.stations t in let unclosed = unshut t in grind (arith, nat_tests)

    pub plain_reach : (v : Bool) → Plain (with_reach b s v)
    plain_reach v = record { sized = plain.sized; limits = plain.limits; stations = stations_with v; cells = plain.cells }

pub plain_new : (kind : ℕ) (blank : Payloads) (n m : ℕ) → allowed kind n m ≡ true → within (first_record blank) ≡ true → Plain (new_bank kind blank n m)
plain_new kind blank n m ok fits = record {
  sized = ok;
  limits = λ s e hs he. rw (hs, he) fits;
  stations = λ s. plain_station (between 1 n s) true;
  cells = λ s e out. rw out refl;
}

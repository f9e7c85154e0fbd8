-- Lines by their first word.
use Rattle.std.proofs.Common.{◌≡◌, ℕ, List, ◌∷◌, vec_items, codes, Result, Vec, sym, ap, ◌∙◌, subst, Bor}
use Rattle.families.specs.declared.Quorum.{Quorum}
use Rattle.notation.specs.Words.{texts}
use Rattle.std.specs.declared.alloc.Global.{Global}
use Rattle.values.specs.declared.fault.ValueFault.{ValueFault}
use Rattle.rulescript.specs.Lines.{ChooseWords, Means}
use Rattle.rulescript.specs.declared.line.Call.{Call}
use Rattle.rulescript.specs.declared.line.Call.TheVariants.{Choose, Code}
use Rattle.rulescript.specs.declared.line.Setup.{Setup}
use Rattle.script.specs.declared.line.Line.{Line}
use Rattle.script.specs.declared.line.Line.TheVariants as line
use Rattle.rulescript.specs.declared.line.Setup.TheVariants.{Rule, Value}

module _ (ws : List (Bor (List ℕ))) (name : List ℕ) (first : Bor (List ℕ)) (rest : List (Bor (List ℕ))) (e : ws ≡ first ∷ rest) (is : first.now ≡ name) where
  -- what holds of the words behind the name
  pub behind : (P : List (List ℕ) → Type 0) → P (texts rest) → (more : List (List ℕ)) × (texts ws ≡ name ∷ more) × P more
  behind P p = (texts rest, ap texts e ∙ ap (λ w. w ∷ texts rest) is, p)

  head_is : (x : List ℕ) (more : List (List ℕ)) → texts ws ≡ x ∷ more → (x ≡ name) × (more ≡ texts rest)
  head_is x more h =
      let all = sym h ∙ ap texts e in
      let names : x ≡ name = cc in
      let rests : more ≡ texts rest = cc in
      (names, rests)

pub no_choice_no_line : {V : Type 0} (written : List (List ℕ) → Result V ValueFault → Type 0) (ws : List (Bor (List ℕ))) (first : Bor (List ℕ)) (rest : List (Bor (List ℕ))) → ws ≡ first ∷ rest → first.now ≡ codes "choose" → ((p : Quorum × Vec ℕ Global) → ChooseWords (texts rest) p.0 (vec_items p.1) → ⊥) → (l : Line Setup (Call V)) → Means written (texts ws) l → ⊥
no_choice_no_line written ws first rest e is none line.Nothing k = let all = sym k ∙ ap texts e in cc
no_choice_no_line written ws first rest e is none (line.Setup (Rule f)) k = let other = (head_is ws _ first rest e is _ _ k.1).0 in cc
no_choice_no_line written ws first rest e is none (line.Setup (Value v)) k = let other = (head_is ws _ first rest e is _ _ k.1).0 in cc
no_choice_no_line written ws first rest e is none (line.Call (Code r)) k = let other = (head_is ws _ first rest e is _ _ k.1).0 in cc
no_choice_no_line written ws first rest e is none (line.Call (Choose q away)) k = none (q, away) (subst (λ r. ChooseWords r q (vec_items away)) (head_is ws _ first rest e is _ _ k.1).1 k.2)

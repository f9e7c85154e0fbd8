-- What the list of refusals has for each cause, and how a refusal is written.
use Rattle.std.specs.Prelude.{ℕ, Bool, List, ◌++◌, codes, decimal}
use Rattle.faults.specs.declared.Layer.{Layer}
use Rattle.faults.specs.declared.Layer.TheVariants.{Tree, Rule, Bank, Value, Register}
use Rattle.faults.specs.declared.Refusal.{Refusal}

-- A fault's line in the list of refusals: the number of its cause, the layer that refuses, the place that
-- this fault tells, and the places that a fault of this cause may tell.
pub record Line : Type 0 where
  pub number : ℕ
  pub layer : Layer
  pub place : ℕ
  pub places : ℕ → Bool

-- the refusal as it is told
abbrev pub told : Line → Refusal
told l = record { number = l.number; layer = l.layer; place = l.place }

abbrev pub layer_name : Layer → List ℕ
layer_name Tree = codes "tree"
layer_name Rule = codes "rule"
layer_name Bank = codes "bank"
layer_name Value = codes "value"
layer_name Register = codes "register"

-- as in `refused 20, value, place 1`
abbrev pub refusal_text : Refusal → List ℕ
refusal_text r = codes "refused " ++ (decimal r.number ++ (codes ", " ++ (layer_name r.layer ++ (codes ", place " ++ decimal r.place))))

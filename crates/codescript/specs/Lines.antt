-- The lines of the language: which words mean what.
use Rattle.std.specs.Prelude.{◌≡◌, ℕ, Bool, true, List, [], ◌∷◌, Some, codes, Option, Result}
use Rattle.codescript.specs.declared.line.Call.{Call}
use Rattle.codescript.specs.declared.line.Call.TheVariants.{Code}
use Rattle.codescript.specs.declared.line.Setup.{Setup}
use Rattle.codescript.specs.declared.line.Setup.TheVariants.{Value}
use Rattle.script.specs.Kinds.{kind_name}
use Rattle.script.specs.declared.kind.Kind.{Kind}
use Rattle.script.specs.declared.line.Line.{Line}
use Rattle.script.specs.declared.line.Line.TheVariants as line
use Rattle.values.specs.declared.fault.ValueFault.{ValueFault}

-- the two set up the same thing
abbrev pub same_setup : Setup → Setup → Bool
same_setup (Value j) (Value k) = true

-- the kind of value that is set up
abbrev pub setup_kind : Setup → Option Kind
setup_kind (Value k) = Some k

-- set-up lines: `value KIND`
abbrev pub SetsUp : List (List ℕ) → Setup → Type 0
SetsUp ws (Value k) = ws ≡ codes "value" ∷ (kind_name k ∷ [])

module _ {V : Type 0} (written : List (List ℕ) → Result V ValueFault → Type 0) where
  -- calls: `code VALUE`
  abbrev pub Calls : List (List ℕ) → Call V → Type 0
  Calls ws (Code r) = (rest : List (List ℕ)) × (ws ≡ codes "code" ∷ rest) × written rest r

  -- a line has no words, sets something up, or is a call
  abbrev pub Means : List (List ℕ) → Line Setup (Call V) → Type 0
  Means ws line.Nothing = ws ≡ []
  Means ws (line.Setup s) = SetsUp ws s
  Means ws (line.Call c) = Calls ws c

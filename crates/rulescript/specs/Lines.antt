-- The lines of the language: which words mean what.
use Rattle.std.specs.Prelude.{◌≡◌, ℕ, Bool, true, false, List, [], ◌∷◌, Some, None, vec_items, codes, Option, Result}
use Rattle.anyrule.specs.declared.RuleForm.{RuleForm}
use Rattle.anyrule.specs.declared.RuleForm.TheVariants as form
use Rattle.families.specs.Meaning.{quorum_name}
use Rattle.families.specs.declared.Quorum.{Quorum}
use Rattle.notation.specs.Words.{Says}
use Rattle.rulescript.specs.declared.line.Call.{Call}
use Rattle.rulescript.specs.declared.line.Call.TheVariants.{Choose, Code}
use Rattle.rulescript.specs.declared.line.Setup.{Setup}
use Rattle.rulescript.specs.declared.line.Setup.TheVariants.{Rule, Value}
use Rattle.script.specs.Kinds.{NamesKind}
use Rattle.script.specs.declared.kind.Kind.{Kind}
use Rattle.script.specs.declared.line.Line.{Line}
use Rattle.script.specs.declared.line.Line.TheVariants as line
use Rattle.values.specs.declared.fault.ValueFault.{ValueFault}

-- the two set up the same thing
abbrev pub same_setup : Setup → Setup → Bool
same_setup (Rule f) (Rule g) = true
same_setup (Rule f) (Value k) = false
same_setup (Value j) (Rule g) = false
same_setup (Value j) (Value k) = true

-- the kind of value that is set up, if one is
abbrev pub setup_kind : Setup → Option Kind
setup_kind (Rule f) = None
setup_kind (Value k) = Some k

-- `tree B H`, `levels B H`, or `votes W V1 .. Vn`
abbrev pub AsksRule : List (List ℕ) → RuleForm → Type 0
AsksRule ws (form.Tree b h) = Says ws (codes "tree") (b ∷ (h ∷ []))
AsksRule ws (form.Levels b h) = Says ws (codes "levels") (b ∷ (h ∷ []))
AsksRule ws (form.Votes w vs) = Says ws (codes "votes") (w ∷ vec_items vs)

-- set-up lines: `rule RULE`, `value KIND`
abbrev pub SetsUp : List (List ℕ) → Setup → Type 0
SetsUp ws (Rule f) = (rest : List (List ℕ)) × (ws ≡ codes "rule" ∷ rest) × AsksRule rest f
SetsUp ws (Value k) = (rest : List (List ℕ)) × (ws ≡ codes "value" ∷ rest) × NamesKind rest k

-- nothing where no copy is away, else `away` and the copies
abbrev pub AwayWords : List (List ℕ) → List ℕ → Type 0
AwayWords ws [] = ws ≡ []
AwayWords ws (c ∷ cs) = Says ws (codes "away") (c ∷ cs)

-- `read` or `write`, and which copies are away
abbrev pub ChooseWords : List (List ℕ) → Quorum → List ℕ → Type 0
ChooseWords ws q away = (rest : List (List ℕ)) × (ws ≡ quorum_name q ∷ rest) × AwayWords rest away

module _ {V : Type 0} (written : List (List ℕ) → Result V ValueFault → Type 0) where
  -- calls: `code VALUE`, `choose read` or `choose write` and the copies away
  abbrev pub Calls : List (List ℕ) → Call V → Type 0
  Calls ws (Code r) = (rest : List (List ℕ)) × (ws ≡ codes "code" ∷ rest) × written rest r
  Calls ws (Choose q away) = (rest : List (List ℕ)) × (ws ≡ codes "choose" ∷ rest) × ChooseWords rest q (vec_items away)

  -- a line has no words, sets something up, or is a call
  abbrev pub Means : List (List ℕ) → Line Setup (Call V) → Type 0
  Means ws line.Nothing = ws ≡ []
  Means ws (line.Setup s) = SetsUp ws s
  Means ws (line.Call c) = Calls ws c

-- The kinds of value, by name.
use Rattle.std.specs.Prelude.{◌≡◌, ℕ, List, [], ◌∷◌, codes}
use Rattle.script.specs.declared.kind.Kind.{Kind}
use Rattle.script.specs.declared.kind.Kind.TheVariants as kind

abbrev pub kind_name : Kind → List ℕ
kind_name kind.Baseline = codes "baseline"
kind_name kind.Notice = codes "notice"

abbrev pub NamesKind : List (List ℕ) → Kind → Type 0
NamesKind ws k = ws ≡ kind_name k ∷ []

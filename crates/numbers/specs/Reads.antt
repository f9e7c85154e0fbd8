-- What reading a text as a number in tenths answers.
use Rattle.std.specs.Prelude.{◌≡◌, ℕ, List, ℤ, Ok, FitsSigned, MatchResult, Result}
use Rattle.std.specs.Int.{w32}
use Rattle.numbers.specs.Written.{Writes, tenths_text}
use Rattle.numbers.specs.declared.tenths.NotTenths.{NotTenths}
use Rattle.numbers.specs.declared.tenths.Tenths.{Tenths}

-- the number that the text writes, where it writes one that fits; and a number back from the text it is shown as
pub record ReadsTenths (text : List ℕ) (r : Result Tenths NotTenths) : Type 0 where
  pub reads : MatchResult r (λ t. Writes text t.0) (λ e. (z : ℤ) → FitsSigned w32 z → Writes text z → ⊥)
  pub back : (t : Tenths) → FitsSigned w32 t.0 → text ≡ tenths_text t.0 → r ≡ Ok t

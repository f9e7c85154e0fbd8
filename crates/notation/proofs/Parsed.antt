-- What a text that was parsed as a number in tenths writes.
use Rattle.std.proofs.Common.{◌≡◌, ℕ, List, ℤ, Ok, Err, Option, Result, MatchOption, w32, SFits, subst, sym}
use Rattle.std.specs.Result.{result_ok}
use Rattle.numbers.specs.Reads.{ReadsTenths}
use Rattle.numbers.specs.Written.{Writes}
use Rattle.numbers.specs.declared.tenths.NotTenths.{NotTenths}
use Rattle.numbers.specs.declared.tenths.Tenths.{Tenths}

abbrev Parsed : List ℕ → Option Tenths → Type 0
Parsed text o = MatchOption o ((z : ℤ) → SFits w32 z → Writes text z → ⊥) (λ t. Writes text t.0)

pub parsed : (text : List ℕ) (o : Option Tenths) (r : Result Tenths NotTenths) → ReadsTenths text r → o ≡ result_ok r → MatchOption o ((z : ℤ) → SFits w32 z → Writes text z → ⊥) (λ t. Writes text t.0)
parsed text o (Ok s) h e = subst (Parsed text) (sym e) h.reads
parsed text o (Err f) h e = subst (Parsed text) (sym e) h.reads

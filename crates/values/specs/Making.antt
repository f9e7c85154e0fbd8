-- What making a value of given parts answers.
use Rattle.std.specs.Prelude.{◌≡◌, Bool, cond, List, [], ◌∷◌, Some, None, Ok, Err, Option, Result}
use Rattle.values.specs.declared.fault.Part.{Part}
use Rattle.values.specs.declared.fault.ValueFault.{ValueFault}
use Rattle.values.specs.declared.fault.ValueFault.TheVariants.{OutOfRange}

-- of parts, each with whether it is in range, the first that is not
abbrev pub first_out : List (Bool × Part) → Option Part
first_out [] = None
first_out (p ∷ ps) = cond p.0 (first_out ps) (Some p.1)

-- with a part out of range, the refusal that tells it; else a value that has the parts handed
abbrev pub Made : {V : Type 0} → Option Part → (V → Type 0) → Result V ValueFault → Type 0
Made None Has (Ok v) = Has v
Made None Has (Err f) = ⊥
Made (Some p) Has r = r ≡ Err (OutOfRange p)

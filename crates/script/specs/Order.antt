-- The lines of a script one after the other: which are bad, what is set up, and the calls in order.
-- Each line comes as what it means, or as nothing where it means nothing.
use Rattle.std.specs.Prelude.{ℕ, ◌+◌, Bool, true, false, cond, List, [], ◌∷◌, ◌++◌, length, Some, None, codes, Option}
use Rattle.std.specs.List.{filter_map, list_any}
use Rattle.std.specs.Option.{unwrap_or}
use Rattle.script.specs.declared.kind.Kind.{Kind}
use Rattle.script.specs.declared.kind.Kind.TheVariants as kind
use Rattle.script.specs.declared.line.Line.{Line}
use Rattle.script.specs.declared.line.Line.TheVariants.{Call, Nothing, Setup}
use Rattle.script.specs.declared.order.BadLine.{BadLine}
use Rattle.script.specs.declared.order.Cause.{Cause}
use Rattle.script.specs.declared.order.Cause.TheVariants.{Late, Twice, Unreadable}

abbrev pub cause_text : Cause → List ℕ
cause_text Unreadable = codes "cannot be read"
cause_text Late = codes "set-up after the first call"
cause_text Twice = codes "set up already"

-- the first that an element gives, else this one
abbrev pub first_of : {A B : Type 0} → (A → Option B) → B → List A → B
first_of gives other [] = other
first_of gives other (x ∷ xs) = unwrap_or (gives x) (first_of gives other xs)

abbrev pub told_as : ℕ → Option Cause → List BadLine
told_as n None = []
told_as n (Some c) = record { number = n; cause = c } ∷ []

module _ {S C : Type 0} where
  abbrev pub is_call : Option (Line S C) → Bool
  is_call None = false
  is_call (Some Nothing) = false
  is_call (Some (Setup s)) = false
  is_call (Some (Call c)) = true

  abbrev pub call_in : Option (Line S C) → Option C
  call_in None = None
  call_in (Some Nothing) = None
  call_in (Some (Setup s)) = None
  call_in (Some (Call c)) = Some c

  abbrev pub calls_of : List (Option (Line S C)) → List C
  calls_of = filter_map call_in

-- `same` tells whether two set up the same thing
module _ {S C : Type 0} (same : S → S → Bool) where
  abbrev pub sets_same : S → Option (Line S C) → Bool
  sets_same s None = false
  sets_same s (Some Nothing) = false
  sets_same s (Some (Setup t)) = same s t
  sets_same s (Some (Call c)) = false

  -- what is wrong with setting something up after the lines before, if anything is
  abbrev pub setup_fault : List (Option (Line S C)) → S → Option Cause
  setup_fault before s = cond (list_any is_call before) (Some Late) (cond (list_any (sets_same s) before) (Some Twice) None)

  -- what is wrong with a line that can be read, if anything is
  abbrev pub line_fault : List (Option (Line S C)) → Line S C → Option Cause
  line_fault before Nothing = None
  line_fault before (Setup s) = setup_fault before s
  line_fault before (Call c) = None

  -- what is wrong with a line after the lines before it, if anything is
  abbrev pub fault_at : List (Option (Line S C)) → Option (Line S C) → Option Cause
  fault_at before None = Some Unreadable
  fault_at before (Some l) = line_fault before l

  -- the bad lines among those that follow the lines before, in order and with their numbers
  abbrev pub bad_lines : List (Option (Line S C)) → List (Option (Line S C)) → List BadLine
  bad_lines before [] = []
  bad_lines before (x ∷ xs) = told_as (length before + 1) (fault_at before x) ++ bad_lines (before ++ (x ∷ [])) xs

-- `kinds` tells which kind of value is set up, if one is
module _ {S C : Type 0} (kinds : S → Option Kind) where
  abbrev pub kind_in : Option (Line S C) → Option Kind
  kind_in None = None
  kind_in (Some Nothing) = None
  kind_in (Some (Setup s)) = kinds s
  kind_in (Some (Call c)) = None

  -- the kind of value that is set up first, else baselines
  abbrev pub kind_of : List (Option (Line S C)) → Kind
  kind_of = first_of kind_in kind.Baseline

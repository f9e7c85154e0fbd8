-- What a bank means that is one of two, settled while the program runs: what that one means.
use Rattle.banks.specs.Meaning.{Meaning}
use Rattle.pile.specs.declared.OneOf.{OneOf}
use Rattle.pile.specs.declared.OneOf.TheVariants.{First, Second}

abbrev pub one_of : {A B : Type 0} → (A → Meaning) → (B → Meaning) → OneOf A B → Meaning
one_of first second (First a) = first a
one_of first second (Second b) = second b

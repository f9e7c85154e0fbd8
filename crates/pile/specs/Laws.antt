-- One of two banks keeps the laws, if both do. So any pile of banks and layers keeps them.
use Rattle.banks.specs.Meaning.{Lawful, Meaning}
use Rattle.pile.specs.Piles.{one_of}
use Rattle.pile.specs.declared.OneOf.{OneOf}
use Rattle.pile.specs.declared.OneOf.TheVariants.{First, Second}

pub one_lawful : {A B : Type 0} (first : A → Meaning) (second : B → Meaning) → ((a : A) → Lawful (first a)) → ((b : B) → Lawful (second b)) → (o : OneOf A B) → Lawful (one_of first second o)
one_lawful first second p q (First a) = p a
one_lawful first second p q (Second b) = q b

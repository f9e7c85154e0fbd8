-- What an image bank means: what its words tell.
use Rattle.std.specs.Prelude.{vec_items}
use Rattle.banks.specs.Meaning.{Meaning}
use Rattle.words.specs.Format.{imaged}
use Rattle.imagebank.specs.declared.ImageBank.{ImageBank}

abbrev pub meant : ImageBank → Meaning
meant b = imaged (vec_items b.words)

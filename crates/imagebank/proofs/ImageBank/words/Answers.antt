use Rattle.std.proofs.Common.{vec_items, ◌∙◌}
use Rattle.imagebank.proofs.ImageBank.words.Goals as goal
use Rattle.imagebank.specs.Wholes.{whole_image}

pub returns : goal.returns
returns c = c.as_slice.ensures.value ∙ whole_image (vec_items c.args.self.now.words) c.args.self.now.sound

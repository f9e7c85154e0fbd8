use Rattle.std.proofs.Common.{◌≡◌, ◌/◌}
use Rattle.families.specs.Levels.{level_first, level_size}
use Rattle.quorum.proofs.tree.Tree.level.Given as goal

abbrev pub invariant-loop-level : goal.invariant-loop-level
invariant-loop-level l = (l.first ≡ level_first (l.self.degree / 2) l._level) × (l.size ≡ level_size (l.self.degree / 2) l._level)

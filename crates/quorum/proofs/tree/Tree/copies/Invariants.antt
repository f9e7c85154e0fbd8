use Rattle.std.proofs.Common.{◌≡◌, ◌-◌, ◌/◌}
use Rattle.families.specs.Trees.{copies_of, last_copy}
use Rattle.quorum.proofs.tree.Tree.copies.Given as goal

-- the levels so far are passed
abbrev pub invariant-loop-level : goal.invariant-loop-level
invariant-loop-level l = copies_of (l.self.degree / 2) l.self.height ≡ last_copy (l.self.degree / 2) (l.self.height - l._level) l.last

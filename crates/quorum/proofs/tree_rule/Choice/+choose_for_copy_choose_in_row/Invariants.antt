use Rattle.std.proofs.Common.{suc, ◌+◌, ◌-◌, ◌*◌, ◌++◌, drop, filter}
use Rattle.std.specs.List.{AllByRecursion}
use Rattle.families.specs.Trees.{children, choice, gather, near_first}
use Rattle.quorum.specs.Rows.{Fits, copies_in}
use Rattle.quorum.specs.Sets.{members}
use Rattle.quorum.proofs.Gathering.{Gathered}
use Rattle.quorum.proofs.Rows.{looked_at, passes}
use Rattle.quorum.proofs.tree_rule.Choice.+choose_for_copy_choose_in_row.Given as goal

abbrev pub decreases-choose_for_copy : goal.decreases-choose_for_copy
decreases-choose_for_copy l = 2 * l.self.now.height

abbrev pub decreases-choose_in_row : goal.decreases-choose_in_row
decreases-choose_in_row l = 2 * l.self.now.height - 1

abbrev pub invariant-choose_in_row-loop-near : goal.invariant-choose_in_row-loop-near
invariant-choose_in_row-loop-near l =
    let s = members l.self.reach.now in
    let f = choice l.self.quorum l.self.half (l.self.height - 1) s in
    let row = children l.self.half l.self.copy in
    Gathered f (gather f (suc l.self.half) (near_first s row)) l.chosen l.wanted (passes (drop l.near-index l.near-items) s row)

abbrev pub invariant-choose_in_row-loop-child : goal.invariant-choose_in_row-loop-child
invariant-choose_in_row-loop-child l =
    let s = members l.self.reach.now in
    let f = choice l.self.quorum l.self.half (l.self.height - 1) s in
    let row = children l.self.half l.self.copy in
    AllByRecursion (Fits l.self.half (l.self.height - 1)) (copies_in l.child-iterator)
    × Gathered f (gather f (suc l.self.half) (near_first s row)) l.chosen l.wanted (filter (looked_at l.near s) (copies_in l.child-iterator) ++ passes (drop (l.near-index + 1) l.near-items) s row)

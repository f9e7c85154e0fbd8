use Rattle.std.proofs.Common.{◌-◌, ap, ◌∙◌, arith}
use Rattle.std.proofs.lemmas.List.{drop_more}
use Rattle.quorum.specs.Sets.{members}
use Rattle.quorum.proofs.VoteCounting.{counted_done, counted_none, counted_skip, counted_take, is_away, is_taken, is_without}
use Rattle.quorum.proofs.votes_rule.choose_by_votes.Goals as goal
use Rattle.quorum.proofs.votes_rule.choose_by_votes.Goals.{then-wanted-gt0+then-vote-ne0+then-has, else-wanted-gt0, else-wanted-gt0-via-then-wanted-gt0+then-vote-ne0+else-has, else-wanted-gt0-via-then-wanted-gt0+else-vote-ne0, else-wanted-gt0-via-else-wanted-gt0}

pub loop-i-init : goal.loop-i-init
loop-i-init c = counted_none _ c.args.votes.now (members c.args.reach.now) c.empty-chosen.ensures

pub loop-i-preserved : goal.loop-i-preserved
loop-i-preserved c =
    let here = rw (drop_more c.args.votes.now c.loop-i.i 0 c.loop-i-test.true) at c.loop-i.invariant in
    elim c.if-wanted-gt0.branch [
      | then-wanted-gt0+then-vote-ne0+then-has w ↦
          rw w.chosen-is (counted_take w.if-wanted-gt0.true (w.wanted-is ∙ w.saturating_sub-wanted.ensures ∙ ap (λ k. c.loop-i.wanted - k) w.from.ensures) (is_taken _ _ w.if-has.ensures.member w.if-vote-ne0.true) w.insert.ensures here)
      | else-wanted-gt0 w ↦
          rw (w.chosen-is, w.wanted-is) (elim w.else-wanted-gt0.branch [
            | else-wanted-gt0-via-then-wanted-gt0+then-vote-ne0+else-has w' ↦ counted_skip (is_away _ _ w'.if-has.ensures.member) here
            | else-wanted-gt0-via-then-wanted-gt0+else-vote-ne0 w' ↦ counted_skip (is_without _ _ w'.if-vote-ne0.false) here
            | else-wanted-gt0-via-else-wanted-gt0 w' ↦ counted_done (omega (arith, w'.if-wanted-gt0.false)) here
          ])
    ]

use Rattle.std.proofs.Common.{◌≡◌, ◌-◌, ◌/◌, length, sym, ap, ◌∙◌, arith}
use Rattle.std.proofs.lemmas.List.FromFn.{length-range_with_len}
use Rattle.families.proofs.LevelLaws.{level_odd}
use Rattle.families.specs.Levels.{level_first, level_size}
use Rattle.quorum.proofs.level_rule.LevelRule.new.Goals as goal

-- no level is even
pub returns-in_err-check_odd : goal.returns-in_err-check_odd
returns-in_err-check_odd c =
    let d = c.args.tree.degree / 2 in
    let k = c.loop-level.level in
    let row = c.level.result in
    let size : row.end - row.start ≡ level_size d k =
    sym (length-range_with_len row.start (row.end - row.start)) ∙ ap length c.level.ensures ∙ length-range_with_len (level_first d k) (level_size d k) in
    absurd (omega (arith, size, (level_odd d k).is, c.len.ensures.value, c.in_err-check_odd.ensures.1))

use Rattle.std.proofs.Common.{◌≡◌, ℕ, ◌+◌, ◌<◌, cond, length, get_or, take, drop}
use Rattle.families.specs.Copies.{among}
use Rattle.choosing.specs.Numbers.{no_copy}
use Rattle.choosing.proofs.reach_without.Given as goal

-- what is left decides whether all are copies; the marks are those without the copies so far
abbrev pub invariant-loop-copy : goal.invariant-loop-copy
invariant-loop-copy l =
    (length l.reach ≡ 64)
    × (no_copy l.n l.away ≡ no_copy l.n (drop l.copy-index l.away))
    × ((k : ℕ) → k < 64 → get_or l.reach k 0 ≡ cond (among (take l.copy-index l.away) (k + 1)) 0 1)

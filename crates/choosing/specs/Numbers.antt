-- What a rule chooses when some copies are away, by the numbers of the copies.
use Rattle.std.specs.Prelude.{◌≡◌, ℕ, cond, not, ◌⊎◌, List, [], ◌∷◌, ◌++◌, Some, None, Ok, Err, vec_items, codes, decimal, filter, Option, Result, Vec}
use Rattle.faults.specs.Line.{refusal_text, told}
use Rattle.families.specs.Copies.{among, is_copy, marked, marks}
use Rattle.families.specs.Meaning.{Meaning}
use Rattle.families.specs.declared.Quorum.{Quorum}
use Rattle.quorum.specs.Choosing.{NoQuorum, no_quorum}
use Rattle.quorum.specs.Faults.{rule_line}
use Rattle.std.specs.List.{range_with_len}
use Rattle.std.specs.declared.alloc.Global.{Global}
use Rattle.choosing.specs.declared.NoChoice.{NoChoice}
use Rattle.choosing.specs.declared.NoChoice.TheVariants.{NoCopy, Refused}

-- the first of these numbers that is none of the n copies, if one is none
abbrev pub no_copy : ℕ → List ℕ → Option ℕ
no_copy n [] = None
no_copy n (c ∷ cs) = cond (is_copy n c) (no_copy n cs) (Some c)

-- the reach marks of n copies, these away and all others in reach
abbrev pub reach_without : ℕ → List ℕ → List ℕ
reach_without n away = marks n (λ c. not (among away c))

-- the copies that n marks name, by number
abbrev pub named : ℕ → List ℕ → List ℕ
named n ms = filter (marked n ms) (range_with_len 1 n)

-- as in `no such copy 41` or `refused 7, rule, place 0`
abbrev pub no_choice_text : NoChoice → List ℕ
no_choice_text (NoCopy c) = codes "no such copy " ++ decimal c
no_choice_text (Refused f) = refusal_text (told (rule_line f))

-- what is chosen from this reach, by number; refused where no quorum is in reach
abbrev pub Numbered : Meaning → Quorum → List ℕ → Result (Vec ℕ Global) NoChoice → Type 0
Numbered m q reach (Ok copies) = (ms : List ℕ) × (m.choice q reach ≡ Some ms) × (vec_items copies ≡ named m.n ms)
Numbered m q reach (Err (NoCopy c)) = ⊥
Numbered m q reach (Err (Refused f)) = NoQuorum m q reach × (f ≡ no_quorum q)

-- what is chosen when these are away; refused first where one of these is no copy
abbrev pub Choice : Meaning → Quorum → List ℕ → Result (Vec ℕ Global) NoChoice → Type 0
Choice m q away r = ((c : ℕ) × (no_copy m.n away ≡ Some c) × (r ≡ Err (NoCopy c))) ⊎ ((no_copy m.n away ≡ None) × Numbered m q (reach_without m.n away) r)

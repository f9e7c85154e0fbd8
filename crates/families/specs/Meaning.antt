-- What a quorum rule means, and the laws that its meaning keeps.
use Rattle.std.specs.Prelude.{◌≡◌, ℕ, ◌≤◌, Bool, false, not, T, List, codes, Option, MatchOption}
use Rattle.families.specs.Copies.{Copies, Shared, Within, everything, marked, marks, outside}
use Rattle.families.specs.declared.Quorum.{Quorum}
use Rattle.families.specs.declared.Quorum.TheVariants.{Read, Write}

abbrev pub quorum_name : Quorum → List ℕ
quorum_name Read = codes "read"
quorum_name Write = codes "write"

-- A rule has n copies. It says which sets of them hold a quorum, and it chooses: from the list of reach marks
-- it makes the list of choice marks, or none.
pub record Meaning : Type 0 where
  pub n : ℕ
  pub holds : Quorum → Copies → Bool
  pub choice : Quorum → List ℕ → Option (List ℕ)

-- the choice is a list of n marks, each 0 or 1; it lies in reach, and it holds the quorum
pub record Chosen (m : Meaning) (q : Quorum) (reach choice : List ℕ) : Type 0 where
  pub clean : choice ≡ marks m.n (marked m.n choice)
  pub in_reach : Within m.n (marked m.n choice) (marked m.n reach)
  pub enough : T (m.holds q (marked m.n choice))

pub record Lawful (m : Meaning) : Type 0 where
  pub sized : (1 ≤ m.n) × (m.n ≤ 64)
  -- a set holds a read quorum exactly when the copies outside it hold no write quorum
  pub dual : (s : Copies) → m.holds Read s ≡ not (m.holds Write (outside m.n s))
  -- two sets that hold write quorums share a copy
  pub meet : (s t : Copies) → T (m.holds Write s) → T (m.holds Write t) → Shared m.n s t
  -- a quorum stays held when copies are added
  pub grow : (q : Quorum) (s t : Copies) → Within m.n s t → T (m.holds q s) → T (m.holds q t)
  -- all copies together hold a write quorum
  pub all : T (m.holds Write everything)
  -- a choice is absent exactly when the copies in reach hold no quorum
  pub choose : (q : Quorum) (reach : List ℕ) → MatchOption (m.choice q reach) (m.holds q (marked m.n reach) ≡ false) (Chosen m q reach)

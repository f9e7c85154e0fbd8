-- The tree rule keeps the laws.
use Rattle.std.proofs.Common.{◌≡◌, ℕ, ◌≤◌, not, ap, ◌∙◌, arith}
use Rattle.families.specs.Copies.{Copies, marked, outside}
use Rattle.families.specs.Meaning.{Lawful}
use Rattle.families.specs.Trees.{choice, copies_of, holds, tree_rule}
use Rattle.families.specs.declared.Quorum.{Quorum}
use Rattle.families.specs.declared.Quorum.TheVariants.{Write}
use Rattle.families.proofs.Laws.{Agree, choose_listed, grow_within, outside_same}
use Rattle.families.proofs.Sets.{copy_from}
use Rattle.families.proofs.TreeChoices.{choice_serves}
use Rattle.families.proofs.TreeFamilies.{all_write, at_most_last, holds_grow, holds_same, read_or_write, root_written}

module _ (d h : ℕ) where
  tree_local : (q : Quorum) (s t : Copies) → Agree (copies_of d h) s t → holds q d h s 1 ≡ holds q d h t 1
  tree_local q s t e = holds_same q d h s t 1 (omega arith) (λ x l k. e x (copy_from (copies_of d h) x l k))

  pub tree_lawful : copies_of d h ≤ 64 → Lawful (tree_rule d h)
  tree_lawful small = record {
    sized = (at_most_last d h 1, small);
    dual = λ s. read_or_write d h s 1 ∙ ap not (tree_local Write (λ c. not (s c)) (outside (copies_of d h) s) (outside_same (copies_of d h) s));
    meet = λ s t v w. (1, copy_from (copies_of d h) 1 (omega arith) (at_most_last d h 1), root_written d h s 1 v, root_written d h t 1 w);
    grow = λ q. grow_within (copies_of d h) (λ s. holds q d h s 1) (tree_local q) (λ s t i. holds_grow q d h s t 1 i);
    all = all_write d h 1;
    choose = λ q reach. choose_listed (tree_rule d h) q (tree_local q) reach (choice q d h (marked (copies_of d h) reach) 1) (choice_serves q d h (marked (copies_of d h) reach) 1);
  }

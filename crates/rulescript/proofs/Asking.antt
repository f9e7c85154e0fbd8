-- Words that ask for no rule.
use Rattle.std.proofs.Common.{◌≡◌, ℕ, List, [], ◌∷◌, vec_items, codes, Vec, Bor}
use Rattle.anyrule.specs.declared.RuleForm.{RuleForm}
use Rattle.anyrule.specs.declared.RuleForm.TheVariants as form
use Rattle.notation.specs.Meanings.{says_rest}
use Rattle.notation.specs.Words.{Wholes, texts}
use Rattle.std.specs.declared.alloc.Global.{Global}
use Rattle.rulescript.specs.Lines.{AsksRule}

module _ (ws : List (Bor (List ℕ))) (first : Bor (List ℕ)) (rest : List (Bor (List ℕ))) (e : ws ≡ first ∷ rest) where
  pub no_tree_no_rule : first.now ≡ codes "tree" → ((p : ℕ × ℕ) → Wholes (texts rest) (p.0 ∷ (p.1 ∷ [])) → ⊥) → (f : RuleForm) → AsksRule (texts ws) f → ⊥
  no_tree_no_rule is none (form.Tree b h) k = none (b, h) (says_rest ws _ _ rest _ _ e is k).1
  no_tree_no_rule is none (form.Levels b h) k = let other = (says_rest ws _ _ rest _ _ e is k).0 in cc
  no_tree_no_rule is none (form.Votes w vs) k = let other = (says_rest ws _ _ rest _ _ e is k).0 in cc

  pub no_levels_no_rule : first.now ≡ codes "levels" → ((p : ℕ × ℕ) → Wholes (texts rest) (p.0 ∷ (p.1 ∷ [])) → ⊥) → (f : RuleForm) → AsksRule (texts ws) f → ⊥
  no_levels_no_rule is none (form.Tree b h) k = let other = (says_rest ws _ _ rest _ _ e is k).0 in cc
  no_levels_no_rule is none (form.Levels b h) k = none (b, h) (says_rest ws _ _ rest _ _ e is k).1
  no_levels_no_rule is none (form.Votes w vs) k = let other = (says_rest ws _ _ rest _ _ e is k).0 in cc

  pub no_votes_no_rule : first.now ≡ codes "votes" → ((p : ℕ × Vec ℕ Global) → Wholes (texts rest) (p.0 ∷ vec_items p.1) → ⊥) → (f : RuleForm) → AsksRule (texts ws) f → ⊥
  no_votes_no_rule is none (form.Tree b h) k = let other = (says_rest ws _ _ rest _ _ e is k).0 in cc
  no_votes_no_rule is none (form.Levels b h) k = let other = (says_rest ws _ _ rest _ _ e is k).0 in cc
  no_votes_no_rule is none (form.Votes w vs) k = none (w, vs) (says_rest ws _ _ rest _ _ e is k).1

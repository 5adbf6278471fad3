-- Statements over parts in boxes.
use Rattle.std.proofs.Common.{◌≡◌, ℕ, Bool, true, false, ◌&&◌, List, map, Some, None, Box, Global, refl, sym, ap, ap₂, ◌∙◌}
use Rattle.flat_meaning.specs.Flat as f
use Rattle.flat_form.specs.declared.flat.FExpr.{FExpr}
use Rattle.flat_form.specs.declared.flat.FTarget.{FTarget}
use Rattle.flat_form.specs.declared.flat.FTarget.TheOpen.{FTarget-F}
use Rattle.flat_form.specs.declared.flat.FTarget.TheFolds.{fold-roll-FTarget}
use Rattle.flat_form.specs.declared.flat.FTarget.TheVariants as g
use Rattle.flat_form.specs.declared.flat.FStmt.{FStmt}
use Rattle.flat_form.specs.declared.flat.FCaseItem.{FCaseItem}
use Rattle.flat_form.specs.declared.flat.FStmt.TheOpen.{FStmt-F}
use Rattle.flat_form.specs.declared.flat.FStmt.TheFolds.{fold-roll-FStmt}
use Rattle.flat_form.specs.declared.flat.FStmt.TheVariants as t
use Rattle.flat_form.specs.View.{expr_of, target_of, stmt_of, stmts_of, arm_of, items_of}
use Rattle.flat_form.proofs.StmtFolds.{stmt_of-Set, stmt_of-If, stmt_of-If_alone, stmt_of-Case, stmt_of-Case_alone, stmt_of-Block}
use Rattle.flat_unfolding.specs.Widths.{keeps_sizes, target_step, target_keeps_sizes, all_true, stmt_step, arm_step, stmt_keeps_sizes}
use Rattle.flat_statements.specs.Statements.{arm_keeps_sizes, Builds}

pub builds-set : (b : Bool) (g : FTarget) (e : FExpr) → Builds (t.Set b g e) (f.Set b (target_of g) (expr_of e)) (target_keeps_sizes g && keeps_sizes e)
builds-set b g e = record {
  stmt = stmt_of-Set b g e;
  sizes = ap stmt_keeps_sizes (sym (t.rolls-Set b g e)) ∙ fold-roll-FStmt Bool Bool stmt_step arm_step (FStmt-F.Set b g e);
}

pub builds-chosen : (c : FExpr) (x y : FStmt) (p q : Box FStmt Global) → p.value ≡ x → q.value ≡ y → Builds (t.If c p (Some q)) (f.If (expr_of c) (stmt_of x) (stmt_of y)) (keeps_sizes c && (stmt_keeps_sizes x && stmt_keeps_sizes y))
builds-chosen c x y p q h k = record {
  stmt = stmt_of-If c p q ∙ ap₂ (λ z w. f.If (expr_of c) (stmt_of z) (stmt_of w)) h k;
  sizes = ap stmt_keeps_sizes (sym (t.rolls-If c p (Some q))) ∙ fold-roll-FStmt Bool Bool stmt_step arm_step (FStmt-F.If c p (Some q)) ∙ ap₂ (λ z w. keeps_sizes c && (stmt_keeps_sizes z && stmt_keeps_sizes w)) h k;
}

and-true : (b : Bool) → (b && true) ≡ b
and-true true = refl
and-true false = refl

pub builds-alone : (c : FExpr) (x : FStmt) (p : Box FStmt Global) → p.value ≡ x → Builds (t.If c p None) (f.If (expr_of c) (stmt_of x) f.Null) (keeps_sizes c && stmt_keeps_sizes x)
builds-alone c x p h = record {
  stmt = stmt_of-If_alone c p ∙ ap (λ z. f.If (expr_of c) (stmt_of z) f.Null) h;
  sizes = ap stmt_keeps_sizes (sym (t.rolls-If c p None)) ∙ fold-roll-FStmt Bool Bool stmt_step arm_step (FStmt-F.If c p None) ∙ ap (λ z. keeps_sizes c && z) (and-true (stmt_keeps_sizes p.value)) ∙ ap (λ z. keeps_sizes c && stmt_keeps_sizes z) h;
}

pub builds-case : (e : FExpr) (is : List FCaseItem) (y : FStmt) (q : Box FStmt Global) → q.value ≡ y
    → Builds (t.Case e is (Some q)) (f.Case (expr_of e) (items_of (map arm_of is) (f.default_item (stmt_of y)))) (keeps_sizes e && (all_true (map arm_keeps_sizes is) && stmt_keeps_sizes y))
builds-case e is y q h = record {
  stmt = stmt_of-Case e is q ∙ ap (λ z. f.Case (expr_of e) (items_of (map arm_of is) (f.default_item (stmt_of z)))) h;
  sizes = ap stmt_keeps_sizes (sym (t.rolls-Case e is (Some q))) ∙ fold-roll-FStmt Bool Bool stmt_step arm_step (FStmt-F.Case e is (Some q)) ∙ ap (λ z. keeps_sizes e && (all_true (map arm_keeps_sizes is) && stmt_keeps_sizes z)) h;
}

pub builds-case_alone : (e : FExpr) (is : List FCaseItem) → Builds (t.Case e is None) (f.Case (expr_of e) (items_of (map arm_of is) f.no_items)) (keeps_sizes e && (all_true (map arm_keeps_sizes is) && true))
builds-case_alone e is = record {
  stmt = stmt_of-Case_alone e is;
  sizes = ap stmt_keeps_sizes (sym (t.rolls-Case e is None)) ∙ fold-roll-FStmt Bool Bool stmt_step arm_step (FStmt-F.Case e is None);
}

pub builds-block : (xs : List FStmt) → Builds (t.Block xs) (f.Block (stmts_of (map stmt_of xs))) (all_true (map stmt_keeps_sizes xs))
builds-block xs = record {
  stmt = stmt_of-Block xs;
  sizes = ap stmt_keeps_sizes (sym (t.rolls-Block xs)) ∙ fold-roll-FStmt Bool Bool stmt_step arm_step (FStmt-F.Block xs);
}

pub whole-keeps : (s : ℕ) → target_keeps_sizes (g.Whole s) ≡ true
whole-keeps s = ap target_keeps_sizes (sym (g.rolls-Whole s)) ∙ fold-roll-FTarget Bool target_step (FTarget-F.Whole s)

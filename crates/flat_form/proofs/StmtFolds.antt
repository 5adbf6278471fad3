-- What each form of a statement is, one level down: its meaning, and whether it is sized.
use Rattle.std.proofs.Common.{◌≡◌, ℕ, Bool, true, ◌&&◌, List, map, Some, None, Box, Global, sym, ap, ◌∙◌}
use Rattle.flat_form.specs.declared.flat.FExpr.{FExpr}
use Rattle.flat_form.specs.declared.flat.FTarget.{FTarget}
use Rattle.flat_form.specs.declared.flat.FStmt.{FStmt}
use Rattle.flat_form.specs.declared.flat.FCaseItem.{FCaseItem}
use Rattle.flat_form.specs.declared.flat.FStmt.TheOpen.{FStmt-F}
use Rattle.flat_form.specs.declared.flat.FStmt.TheFolds.{fold-roll-FStmt}
use Rattle.flat_form.specs.declared.flat.FStmt.TheVariants as t
use Rattle.flat_meaning.specs.Flat as f
use Rattle.flat_form.specs.View as v
use Rattle.flat_form.specs.View.{exprs_of, expr_of, target_of, Arm, stmts_of, items_of, stmt_of, arm_of}
use Rattle.flat_form.specs.Sizes as s
use Rattle.flat_form.specs.Sizes.{is_sized, target_kept, is_stmt_sized, is_arm_sized, list_true}

pub stmt_of-Null : stmt_of t.Null ≡ f.Null
stmt_of-Null = ap stmt_of (sym (t.rolls-Null)) ∙ fold-roll-FStmt f.Stmt Arm v.stmt_step v.arm_step FStmt-F.Null

pub stmt_sized-Null : (wid : ℕ → ℕ) → is_stmt_sized wid t.Null ≡ (true)
stmt_sized-Null wid = ap (is_stmt_sized wid) (sym (t.rolls-Null)) ∙ fold-roll-FStmt Bool Bool (s.stmt_step wid) (s.arm_step wid) FStmt-F.Null

pub stmt_of-Set : (blocking : Bool) (target : FTarget) (value : FExpr) → stmt_of (t.Set blocking target value) ≡ f.Set blocking (target_of target) (expr_of value)
stmt_of-Set blocking target value = ap stmt_of (sym (t.rolls-Set blocking target value)) ∙ fold-roll-FStmt f.Stmt Arm v.stmt_step v.arm_step (FStmt-F.Set blocking target value)

pub stmt_sized-Set : (wid : ℕ → ℕ) (blocking : Bool) (target : FTarget) (value : FExpr) → is_stmt_sized wid (t.Set blocking target value) ≡ ((target_kept wid target).right && is_sized value)
stmt_sized-Set wid blocking target value = ap (is_stmt_sized wid) (sym (t.rolls-Set blocking target value)) ∙ fold-roll-FStmt Bool Bool (s.stmt_step wid) (s.arm_step wid) (FStmt-F.Set blocking target value)

pub stmt_of-If : (c : FExpr) (x y : Box FStmt Global) → stmt_of (t.If c x (Some y)) ≡ f.If (expr_of c) (stmt_of x.value) (stmt_of y.value)
stmt_of-If c x y = ap stmt_of (sym (t.rolls-If c x (Some y))) ∙ fold-roll-FStmt f.Stmt Arm v.stmt_step v.arm_step (FStmt-F.If c x (Some y))

pub stmt_sized-If : (wid : ℕ → ℕ) (c : FExpr) (x y : Box FStmt Global) → is_stmt_sized wid (t.If c x (Some y)) ≡ (is_sized c && (is_stmt_sized wid x.value && is_stmt_sized wid y.value))
stmt_sized-If wid c x y = ap (is_stmt_sized wid) (sym (t.rolls-If c x (Some y))) ∙ fold-roll-FStmt Bool Bool (s.stmt_step wid) (s.arm_step wid) (FStmt-F.If c x (Some y))

pub stmt_of-If_alone : (c : FExpr) (x : Box FStmt Global) → stmt_of (t.If c x None) ≡ f.If (expr_of c) (stmt_of x.value) f.Null
stmt_of-If_alone c x = ap stmt_of (sym (t.rolls-If c x None)) ∙ fold-roll-FStmt f.Stmt Arm v.stmt_step v.arm_step (FStmt-F.If c x None)

pub stmt_sized-If_alone : (wid : ℕ → ℕ) (c : FExpr) (x : Box FStmt Global) → is_stmt_sized wid (t.If c x None) ≡ (is_sized c && (is_stmt_sized wid x.value && true))
stmt_sized-If_alone wid c x = ap (is_stmt_sized wid) (sym (t.rolls-If c x None)) ∙ fold-roll-FStmt Bool Bool (s.stmt_step wid) (s.arm_step wid) (FStmt-F.If c x None)

pub stmt_of-Case : (e : FExpr) (items : List FCaseItem) (y : Box FStmt Global) → stmt_of (t.Case e items (Some y)) ≡ f.Case (expr_of e) (items_of (map arm_of items) (f.default_item (stmt_of y.value)))
stmt_of-Case e items y = ap stmt_of (sym (t.rolls-Case e items (Some y))) ∙ fold-roll-FStmt f.Stmt Arm v.stmt_step v.arm_step (FStmt-F.Case e items (Some y))

pub stmt_sized-Case : (wid : ℕ → ℕ) (e : FExpr) (items : List FCaseItem) (y : Box FStmt Global) → is_stmt_sized wid (t.Case e items (Some y)) ≡ (is_sized e && (list_true wid (map (is_arm_sized wid) items) && is_stmt_sized wid y.value))
stmt_sized-Case wid e items y = ap (is_stmt_sized wid) (sym (t.rolls-Case e items (Some y))) ∙ fold-roll-FStmt Bool Bool (s.stmt_step wid) (s.arm_step wid) (FStmt-F.Case e items (Some y))

pub stmt_of-Case_alone : (e : FExpr) (items : List FCaseItem) → stmt_of (t.Case e items None) ≡ f.Case (expr_of e) (items_of (map arm_of items) f.no_items)
stmt_of-Case_alone e items = ap stmt_of (sym (t.rolls-Case e items None)) ∙ fold-roll-FStmt f.Stmt Arm v.stmt_step v.arm_step (FStmt-F.Case e items None)

pub stmt_sized-Case_alone : (wid : ℕ → ℕ) (e : FExpr) (items : List FCaseItem) → is_stmt_sized wid (t.Case e items None) ≡ (is_sized e && (list_true wid (map (is_arm_sized wid) items) && true))
stmt_sized-Case_alone wid e items = ap (is_stmt_sized wid) (sym (t.rolls-Case e items None)) ∙ fold-roll-FStmt Bool Bool (s.stmt_step wid) (s.arm_step wid) (FStmt-F.Case e items None)

pub stmt_of-Block : (parts : List FStmt) → stmt_of (t.Block parts) ≡ f.Block (stmts_of (map stmt_of parts))
stmt_of-Block parts = ap stmt_of (sym (t.rolls-Block parts)) ∙ fold-roll-FStmt f.Stmt Arm v.stmt_step v.arm_step (FStmt-F.Block parts)

pub stmt_sized-Block : (wid : ℕ → ℕ) (parts : List FStmt) → is_stmt_sized wid (t.Block parts) ≡ (list_true wid (map (is_stmt_sized wid) parts))
stmt_sized-Block wid parts = ap (is_stmt_sized wid) (sym (t.rolls-Block parts)) ∙ fold-roll-FStmt Bool Bool (s.stmt_step wid) (s.arm_step wid) (FStmt-F.Block parts)

-- Expressions and statements that spare what may not be read. An index may choose a bit of any signal: it has two bits at least, by the sizes.
use Rattle.std.proofs.Common.{◌≡◌, ℕ, ◌^◌, ◌<◌, ◌≤◌, Bool, true, arith}
use Rattle.std.proofs.Math.Pow.{pow-lt}
use Rattle.flat_meaning.specs.Flat.{Expr, Number, Read, At, Unary, Binary, Choose, Gate, Join, Repeat, Exprs, no_exprs, expr, size, Target, Whole, Part, Pick, Group, Targets, no_targets, target, Stmt, Null, Set, If, Case, Block, Items, no_items, default_item, item, Stmts, no_stmts, stmt}
use Rattle.flat_meaning.specs.Law.{AreWords}
use Rattle.flat_unfolding.specs.Sized.{IsSized, AreSized, AreLabelsSized, IsTargetSized, AreTargetsSized, IsStmtSized, AreItemsSized, AreStmtsSized, any}
use Rattle.flat_unfolding.proofs.Terms.{size_wide}
use Rattle.reset_reads.specs.Read.{Reads, AllRead, TargetReads, TargetsRead, StmtReads, ItemsRead, StmtsRead}

abbrev pub Spares : (ℕ → Bool) → Expr → Type 0
Spares may = Reads may any

abbrev pub AllSpare : (ℕ → Bool) → Exprs → Type 0
AllSpare may = AllRead may any

abbrev pub TargetSpares : (ℕ → Bool) → Target → Type 0
TargetSpares may = TargetReads may any

abbrev pub TargetsSpare : (ℕ → Bool) → Targets → Type 0
TargetsSpare may = TargetsRead may any

abbrev pub StmtSpares : (ℕ → Bool) → Stmt → Type 0
StmtSpares may = StmtReads may any

abbrev pub ItemsSpare : (ℕ → Bool) → Items → Type 0
ItemsSpare may = ItemsRead may any

abbrev pub StmtsSpare : (ℕ → Bool) → Stmts → Type 0
StmtsSpare may = StmtsRead may any

-- ---- what is well sized as well reads nothing that may not be read

module _ (may can : ℕ → Bool) (wid : ℕ → ℕ) (words : AreWords wid) (allow : (s : ℕ) → may s ≡ true → can s ≡ true) (wide : (s : ℕ) → 2 ≤ wid s → can s ≡ true) where
  -- an index has a bit
  chosen : (s : ℕ) (e : Expr) → IsSized wid (At s e) → 2 ≤ wid s
  chosen s e h = let w = (size_wide wid words e h.1).0 in let p : 2 ^ 0 < 2 ^ size e = pow-lt w in let l = h.0 in omega arith

  mutual
    pub expr_reads : (e : Expr) → IsSized wid e → Spares may e → Reads can can e
    expr_reads (Number w n) h k = tt
    expr_reads (Read s at w) h k = allow s k
    expr_reads (At s e) h k = (wide s (chosen s e h), expr_reads e h.1 k.1)
    expr_reads (Unary op a) h k = expr_reads a h k
    expr_reads (Binary op a b) h k = (expr_reads a h.1 k.0, expr_reads b h.2 k.1)
    expr_reads (Choose c x y) h k = (expr_reads c h.0 k.0, expr_reads x h.1 k.1, expr_reads y h.2 k.2)
    expr_reads (Gate op es) h k = exprs_read es h.2 k
    expr_reads (Join es) h k = exprs_read es h.2 k
    expr_reads (Repeat n es) h k = exprs_read es h.3 k

    exprs_read : (es : Exprs) → AreSized wid es → AllSpare may es → AllRead can can es
    exprs_read no_exprs h k = tt
    exprs_read (expr e es) h k = (expr_reads e h.0 k.0, exprs_read es h.1 k.1)

  mutual
    pub target_reads : (t : Target) → IsTargetSized wid any t → TargetSpares may t → TargetReads can can t
    target_reads (Whole s) h k = tt
    target_reads (Part s at w) h k = tt
    target_reads (Pick s e) h k = expr_reads e h.2 k
    target_reads (Group ts) h k = targets_read ts h.2 k

    targets_read : (ts : Targets) → AreTargetsSized wid any ts → TargetsSpare may ts → TargetsRead can can ts
    targets_read no_targets h k = tt
    targets_read (target t ts) h k = (target_reads t h.0 k.0, targets_read ts h.1 k.1)

  labels_read : (es : Exprs) → AreLabelsSized wid es → AllSpare may es → AllRead can can es
  labels_read no_exprs h k = tt
  labels_read (expr e es) h k = exprs_read (expr e es) h k

  mutual
    pub stmt_reads : (s : Stmt) → IsStmtSized wid any s → StmtSpares may s → StmtReads can can s
    stmt_reads Null h k = tt
    stmt_reads (Set b t e) h k = (target_reads t h.0 k.0, expr_reads e h.1 k.1)
    stmt_reads (If c x y) h k = (expr_reads c h.0 k.0, stmt_reads x h.1 k.1, stmt_reads y h.2 k.2)
    stmt_reads (Case e is) h k = (expr_reads e h.0 k.0, items_read is h.1 k.1)
    stmt_reads (Block ss) h k = stmts_read ss h k

    items_read : (is : Items) → AreItemsSized wid any is → ItemsSpare may is → ItemsRead can can is
    items_read no_items h k = tt
    items_read (default_item s) h k = stmt_reads s h k
    items_read (item ls s rest) h k = (labels_read ls h.0 k.0, stmt_reads s h.1 k.1, items_read rest h.2 k.2)

    stmts_read : (ss : Stmts) → AreStmtsSized wid any ss → StmtsSpare may ss → StmtsRead can can ss
    stmts_read no_stmts h k = tt
    stmts_read (stmt s ss) h k = (stmt_reads s h.0 k.0, stmts_read ss h.1 k.1)

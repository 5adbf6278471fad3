-- The bits that expressions and statements read.
use Rattle.std.specs.Prelude.{ℕ, false, not, ◌&&◌}
use Rattle.flat_meaning.specs.Flat.{Exprs, Target, Whole, Part, Pick, Group, Targets, no_targets, target, Stmt, Null, Set, If, Case, Block, Items, no_items, default_item, item, Stmts, no_stmts, stmt}
use Rattle.flat_meaning.specs.Deps.{Bits, none, union, span, all_reads}
use Rattle.flat_meaning.specs.Law.{expr_reads}

abbrev pub without : Bits → Bits → Bits
without d b s i = b s i && not (d s i)

module _ (wid : ℕ → ℕ) where
  -- a variable index reads its whole signal
  abbrev pub exprs_read : Exprs → Bits
  exprs_read es = all_reads wid (λ d. span) (λ x i j. false) es

  -- the indices of a target are read
  abbrev mutual
    pub target_reads : Target → Bits
    target_reads (Whole s) = none
    target_reads (Part s at w) = none
    target_reads (Pick s e) = expr_reads wid e
    target_reads (Group ts) = targets_read ts

    pub targets_read : Targets → Bits
    targets_read no_targets = none
    targets_read (target t ts) = union (target_reads t) (targets_read ts)

  abbrev mutual
    pub stmt_reads : Stmt → Bits
    stmt_reads Null = none
    stmt_reads (Set b t e) = union (expr_reads wid e) (target_reads t)
    stmt_reads (If c x y) = union (expr_reads wid c) (union (stmt_reads x) (stmt_reads y))
    stmt_reads (Case e is) = union (expr_reads wid e) (items_read is)
    stmt_reads (Block ss) = stmts_read ss

    pub items_read : Items → Bits
    items_read no_items = none
    items_read (default_item s) = stmt_reads s
    items_read (item ls s rest) = union (exprs_read ls) (union (stmt_reads s) (items_read rest))

    pub stmts_read : Stmts → Bits
    stmts_read no_stmts = none
    stmts_read (stmt s ss) = union (stmt_reads s) (stmts_read ss)

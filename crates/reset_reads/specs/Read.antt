-- Expressions and statements that read words of no signals but those of `may`, and choose a bit by an index of none but those of `choose`.
use Rattle.std.specs.Prelude.{◌≡◌, ℕ, Bool, true}
use Rattle.flat_meaning.specs.Flat.{Expr, Number, Read, At, Unary, Binary, Choose, Gate, Join, Repeat, Exprs, no_exprs, expr, Target, Whole, Part, Pick, Group, Targets, no_targets, target, Stmt, Null, Set, If, Case, Block, Items, no_items, default_item, item, Stmts, no_stmts, stmt}

module _ (may choose : ℕ → Bool) where
  abbrev mutual
    pub Reads : Expr → Type 0
    Reads (Number w n) = Unit {0}
    Reads (Read s at w) = may s ≡ true
    Reads (At s e) = (choose s ≡ true) × Reads e
    Reads (Unary op a) = Reads a
    Reads (Binary op a b) = Reads a × Reads b
    Reads (Choose c x y) = Reads c × Reads x × Reads y
    Reads (Gate op es) = AllRead es
    Reads (Join es) = AllRead es
    Reads (Repeat n es) = AllRead es

    pub AllRead : Exprs → Type 0
    AllRead no_exprs = Unit {0}
    AllRead (expr e es) = Reads e × AllRead es

  -- the index of a target is read
  abbrev mutual
    pub TargetReads : Target → Type 0
    TargetReads (Whole s) = Unit {0}
    TargetReads (Part s at w) = Unit {0}
    TargetReads (Pick s e) = Reads e
    TargetReads (Group ts) = TargetsRead ts

    pub TargetsRead : Targets → Type 0
    TargetsRead no_targets = Unit {0}
    TargetsRead (target t ts) = TargetReads t × TargetsRead ts

  abbrev mutual
    pub StmtReads : Stmt → Type 0
    StmtReads Null = Unit {0}
    StmtReads (Set b t e) = TargetReads t × Reads e
    StmtReads (If c x y) = Reads c × StmtReads x × StmtReads y
    StmtReads (Case e is) = Reads e × ItemsRead is
    StmtReads (Block ss) = StmtsRead ss

    pub ItemsRead : Items → Type 0
    ItemsRead no_items = Unit {0}
    ItemsRead (default_item body) = StmtReads body
    ItemsRead (item ls body rest) = AllRead ls × StmtReads body × ItemsRead rest

    pub StmtsRead : Stmts → Type 0
    StmtsRead no_stmts = Unit {0}
    StmtsRead (stmt s ss) = StmtReads s × StmtsRead ss

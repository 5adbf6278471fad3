-- Expressions and statements without empty parts: each part of a concatenation has a bit, a replication a copy, a part of a target a bit, and
-- an item of a `case` a label.
use Rattle.std.specs.Prelude.{◌≤◌, All}
use Rattle.flat_meaning.specs.Flat.{Expr, Number, Read, At, Unary, Binary, Choose, Gate, Join, Repeat, Exprs, no_exprs, expr, Target, Whole, Part, Pick, Group, Targets, no_targets, target, Stmt, Null, Set, If, Case, Block, Items, no_items, default_item, item, Stmts, no_stmts, stmt, size}
use Rattle.flat_meaning.specs.Design.{Flat}

abbrev mutual
  pub IsFilled : Expr → Type 0
  IsFilled (Number w n) = Unit {0}
  IsFilled (Read s at w) = Unit {0}
  IsFilled (At s e) = IsFilled e
  IsFilled (Unary op a) = IsFilled a
  IsFilled (Binary op a b) = IsFilled a × IsFilled b
  IsFilled (Choose c x y) = IsFilled c × IsFilled x × IsFilled y
  IsFilled (Gate op es) = AreFilled es
  IsFilled (Join es) = AreFilled es
  IsFilled (Repeat n es) = (1 ≤ n) × AreFilled es

  pub AreFilled : Exprs → Type 0
  AreFilled no_exprs = Unit {0}
  AreFilled (expr e es) = (1 ≤ size e) × IsFilled e × AreFilled es

abbrev pub HasLabel : Exprs → Type 0
HasLabel no_exprs = ⊥
HasLabel (expr e es) = Unit {0}

abbrev mutual
  pub IsTargetFilled : Target → Type 0
  IsTargetFilled (Whole s) = Unit {0}
  IsTargetFilled (Part s at w) = 1 ≤ w
  IsTargetFilled (Pick s e) = IsFilled e
  IsTargetFilled (Group ts) = AreTargetsFilled ts

  pub AreTargetsFilled : Targets → Type 0
  AreTargetsFilled no_targets = Unit {0}
  AreTargetsFilled (target t ts) = IsTargetFilled t × AreTargetsFilled ts

abbrev mutual
  pub IsStmtFilled : Stmt → Type 0
  IsStmtFilled Null = Unit {0}
  IsStmtFilled (Set b t e) = IsTargetFilled t × IsFilled e
  IsStmtFilled (If c x y) = IsFilled c × IsStmtFilled x × IsStmtFilled y
  IsStmtFilled (Case e is) = IsFilled e × AreItemsFilled is
  IsStmtFilled (Block ss) = AreStmtsFilled ss

  pub AreItemsFilled : Items → Type 0
  AreItemsFilled no_items = Unit {0}
  AreItemsFilled (default_item body) = IsStmtFilled body
  AreItemsFilled (item ls body rest) = HasLabel ls × AreFilled ls × IsStmtFilled body × AreItemsFilled rest

  pub AreStmtsFilled : Stmts → Type 0
  AreStmtsFilled no_stmts = Unit {0}
  AreStmtsFilled (stmt s ss) = IsStmtFilled s × AreStmtsFilled ss

-- a design whose drivers have no empty parts
pub record IsDesignFilled (f : Flat) : Type 0 where
  pub assigned : All (λ a. IsFilled a.1) f.assigns
  pub processed : All IsStmtFilled f.combs

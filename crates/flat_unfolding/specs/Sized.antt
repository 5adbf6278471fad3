-- Well sized flat designs, as far as no kept width is spoken of: each word has 1 to 64 bits, and what is selected lies in its signal.
use Rattle.std.specs.Prelude.{◌≡◌, ℕ, ◌+◌, ◌*◌, ◌^◌, ◌<◌, ◌≤◌, Bool, true, All}
use Rattle.cdc_base.specs.declared.signal.Signal.{Signal}
use Rattle.flat_meaning.specs.Flat.{Expr, Number, Read, At, Unary, Binary, Choose, Gate, Join, Repeat, Exprs, no_exprs, expr, size, sizes, largest, Target, Whole, Part, Pick, Group, Targets, no_targets, target, target_sizes, Stmt, Null, Set, If, Case, Block, Items, no_items, default_item, item, Stmts, no_stmts, stmt}
use Rattle.flat_meaning.specs.Fits.{has_cell, is_gate}
use Rattle.flat_meaning.specs.Design.{Flat, size_in}

module _ (wid : ℕ → ℕ) where
  abbrev mutual
    pub IsSized : Expr → Type 0
    IsSized (Number w n) = (1 ≤ w) × (w ≤ 64) × (n < 2 ^ w)
    IsSized (Read s at w) = (1 ≤ w) × (at + w ≤ wid s)
    IsSized (At s e) = (2 ^ size e ≤ wid s) × IsSized e
    IsSized (Unary op a) = IsSized a
    IsSized (Binary op a b) = (has_cell op ≡ true) × IsSized a × IsSized b
    IsSized (Choose c x y) = IsSized c × IsSized x × IsSized y
    IsSized (Gate op es) = (is_gate op ≡ true) × (largest es ≡ 1) × AreSized es
    IsSized (Join es) = (1 ≤ sizes es) × (sizes es ≤ 64) × AreSized es
    IsSized (Repeat n es) = (1 ≤ n) × (1 ≤ sizes es) × (n * sizes es ≤ 64) × AreSized es

    pub AreSized : Exprs → Type 0
    AreSized no_exprs = Unit {0}
    AreSized (expr e es) = IsSized e × AreSized es

  -- labels of an item: one at least
  abbrev pub AreLabelsSized : Exprs → Type 0
  AreLabelsSized no_exprs = ⊥
  AreLabelsSized (expr e es) = IsSized e × AreSized es

  -- `may` tells which signals are targets
  module _ (may : ℕ → Bool) where
    abbrev mutual
      pub IsTargetSized : Target → Type 0
      IsTargetSized (Whole s) = (may s ≡ true) × (1 ≤ wid s)
      IsTargetSized (Part s at w) = (may s ≡ true) × (1 ≤ w) × (at + w ≤ wid s)
      IsTargetSized (Pick s e) = (may s ≡ true) × (2 ^ size e ≤ wid s) × IsSized e
      IsTargetSized (Group ts) = (1 ≤ target_sizes wid ts) × (target_sizes wid ts ≤ 64) × AreTargetsSized ts

      pub AreTargetsSized : Targets → Type 0
      AreTargetsSized no_targets = Unit {0}
      AreTargetsSized (target t ts) = IsTargetSized t × AreTargetsSized ts

    abbrev mutual
      pub IsStmtSized : Stmt → Type 0
      IsStmtSized Null = Unit {0}
      IsStmtSized (Set b t e) = IsTargetSized t × IsSized e
      IsStmtSized (If c x y) = IsSized c × IsStmtSized x × IsStmtSized y
      IsStmtSized (Case e is) = IsSized e × AreItemsSized is
      IsStmtSized (Block ss) = AreStmtsSized ss

      pub AreItemsSized : Items → Type 0
      AreItemsSized no_items = Unit {0}
      AreItemsSized (default_item s) = IsStmtSized s
      AreItemsSized (item ls s rest) = AreLabelsSized ls × IsStmtSized s × AreItemsSized rest

      pub AreStmtsSized : Stmts → Type 0
      AreStmtsSized no_stmts = Unit {0}
      AreStmtsSized (stmt s ss) = IsStmtSized s × AreStmtsSized ss

abbrev pub any : ℕ → Bool
any s = true

-- each word of the design has 1 to 64 bits
pub record IsSizedFlat (f : Flat) : Type 0 where
  pub signals : All (λ (x : Signal). (1 ≤ x.width) × (x.width ≤ 64)) f.signals
  pub assigns : All (λ (a : Target × Expr). IsTargetSized (size_in f) any a.0 × IsSized (size_in f) a.1) f.assigns
  pub combs : All (IsStmtSized (size_in f) any) f.combs
  pub clocked : All (λ (p : ℕ × Stmt). IsStmtSized (size_in f) any p.1) f.clocked

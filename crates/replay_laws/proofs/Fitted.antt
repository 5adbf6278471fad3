-- What fits a design, and reads only signals that may be read, fits with these selects alone.
use Rattle.std.proofs.Common.{◌≡◌, ℕ, Bool, true}
use Rattle.flat_meaning.specs.Flat.{Expr, Number, Read, At, Unary, Binary, Choose, Gate, Join, Repeat, Exprs, no_exprs, expr, Target, Whole, Part, Pick, Group, Targets, no_targets, target, Stmt, Null, Set, If, Case, Block, Items, no_items, default_item, item, Stmts, no_stmts, stmt}
use Rattle.flat_meaning.specs.Fits.{Fits, AllFit}
use Rattle.flat_meaning.specs.Assigned.{Done, surely, FitsTarget, FitTargets, FitsStmt, FitItems, FitStmts}
use Rattle.reset_reads.specs.Read.{Reads, AllRead, TargetReads, TargetsRead, StmtReads, ItemsRead, StmtsRead}

module _ (wid : ℕ → ℕ) (may : ℕ → Bool) where
  module _ (ok then_ok : (sig at width : ℕ) → Type 0) (on : (s at w : ℕ) → may s ≡ true → ok s at w → then_ok s at w) where
    mutual
      pub fits_on : (e : Expr) → Reads may may e → Fits wid ok e → Fits wid then_ok e
      fits_on (Number w n) r f = tt
      fits_on (Read s at w) r f = on s at w r f
      fits_on (At s e) r f = (on s 0 (wid s) r.0 f.0, f.1, fits_on e r.1 f.2)
      fits_on (Unary op a) r f = fits_on a r f
      fits_on (Binary op a b) r f = (f.0, fits_on a r.0 f.1, fits_on b r.1 f.2)
      fits_on (Choose c x y) r f = (fits_on c r.0 f.0, fits_on x r.1 f.1, fits_on y r.2 f.2)
      fits_on (Gate op es) r f = (f.0, f.1, all_fit_on es r f.2)
      fits_on (Join es) r f = (f.0, all_fit_on es r f.1)
      fits_on (Repeat n es) r f = (f.0, f.1, all_fit_on es r f.2)

      pub all_fit_on : (es : Exprs) → AllRead may may es → AllFit wid ok es → AllFit wid then_ok es
      all_fit_on no_exprs r f = tt
      all_fit_on (expr e es) r f = (fits_on e r.0 f.0, all_fit_on es r.1 f.1)

  module _ (ok then_ok : Done → (sig at width : ℕ) → Type 0) (on : (d : Done) (s at w : ℕ) → may s ≡ true → ok d s at w → then_ok d s at w) where
    mutual
      target_on : (d : Done) (t : Target) → TargetReads may may t → FitsTarget wid ok d t → FitsTarget wid then_ok d t
      target_on d (Whole s) r f = tt
      target_on d (Part s at w) r f = f
      target_on d (Pick s e) r f = (f.0, fits_on (ok d) (then_ok d) (on d) e r f.1)
      target_on d (Group ts) r f = targets_on d ts r f

      targets_on : (d : Done) (ts : Targets) → TargetsRead may may ts → FitTargets wid ok d ts → FitTargets wid then_ok d ts
      targets_on d no_targets r f = tt
      targets_on d (target t ts) r f = (target_on d t r.0 f.0, targets_on d ts r.1 f.1)

    mutual
      pub stmt_on : (d : Done) (s : Stmt) → StmtReads may may s → FitsStmt wid ok d s → FitsStmt wid then_ok d s
      stmt_on d Null r f = tt
      stmt_on d (Set b t e) r f = (fits_on (ok d) (then_ok d) (on d) e r.1 f.0, target_on d t r.0 f.1)
      stmt_on d (If c x y) r f = (fits_on (ok d) (then_ok d) (on d) c r.0 f.0, stmt_on d x r.1 f.1, stmt_on d y r.2 f.2)
      stmt_on d (Case e is) r f = (fits_on (ok d) (then_ok d) (on d) e r.0 f.0, items_on d is r.1 f.1)
      stmt_on d (Block ss) r f = stmts_on d ss r f

      items_on : (d : Done) (is : Items) → ItemsRead may may is → FitItems wid ok d is → FitItems wid then_ok d is
      items_on d no_items r f = tt
      items_on d (default_item body) r f = stmt_on d body r f
      items_on d (item ls body rest) r f = (all_fit_on (ok d) (then_ok d) (on d) ls r.0 f.0, stmt_on d body r.1 f.1, items_on d rest r.2 f.2)

      stmts_on : (d : Done) (ss : Stmts) → StmtsRead may may ss → FitStmts wid ok d ss → FitStmts wid then_ok d ss
      stmts_on d no_stmts r f = tt
      stmts_on d (stmt s ss) r f = (stmt_on d s r.0 f.0, stmts_on (surely wid s d) ss r.1 f.1)

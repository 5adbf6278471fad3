-- What sound designs read and assign is there.
use Rattle.std.proofs.Common.{◌≡◌, ℕ, ◌+◌, ◌<◌, ◌≤◌, Bool, true, false, ◌&&◌, nat_lt, nat_le, List, [], ◌∷◌, map, refl, sym, ◌∙◌, arith, leb-true}
use Rattle.std.specs.List.{AllByRecursion as Each, list_all}
use Rattle.std.proofs.lemmas.Bool.{and_parts}
use Rattle.flat_form.specs.declared.flat.FlatAssign.{FlatAssign}
use Rattle.flat_form.specs.declared.flat.FlatComb.{FlatComb}
use Rattle.flat_form.specs.declared.flat.FlatClocked.{FlatClocked}
use Rattle.flat_form.specs.View.{target_of, expr_of, stmt_of}
use Rattle.flat_form.specs.Sizes.{target_kept, is_sized, is_stmt_sized}
use Rattle.flat_meaning.specs.Flat.{Expr, Number, Read, At, Unary, Binary, Choose, Gate, Join, Repeat, Exprs, no_exprs, expr, Target, Whole, Part, Pick, Group, Targets, no_targets, target, Stmt, Null, Set, If, Case, Block, Items, no_items, default_item, item, Stmts, no_stmts, stmt, assigns}
use Rattle.flat_meaning.specs.Fits.{Fits, AllFit}
use Rattle.flat_meaning.specs.Assigned.{Done, surely, FitsTarget, FitTargets, FitsStmt, FitItems, FitStmts}
use Rattle.flat_meaning.specs.Law.{MayBe, MayRead}
use Rattle.flat_meaning.specs.Design.{Flat, size_in}
use Rattle.flat_meaning.specs.Sound.{inside, DrivesWires, AllDriveWires, IsSoundAssign, IsSoundComb, IsSoundClocked}
use Rattle.flat_meaning.proofs.Depth.{by_bool}
use Rattle.driver_trees.specs.Presents.{IsWithin}
use Rattle.driver_trees.specs.Statements.{IsStmtRead}
use Rattle.driver_trees.specs.Sketched.{IsAssignRead, assign_of}

-- what fits where some selects may be read fits where more may be
module _ (wid : ℕ → ℕ) (ok more : (sig at width : ℕ) → Type 0) (h : (s at w : ℕ) → ok s at w → more s at w) where
  mutual
    pub fits_more : (e : Expr) → Fits wid ok e → Fits wid more e
    fits_more (Number w n) f = f
    fits_more (Read s at w) f = h s at w f
    fits_more (At s e) f = (h s 0 (wid s) f.0, f.1, fits_more e f.2)
    fits_more (Unary op a) f = fits_more a f
    fits_more (Binary op a b) f = (f.0, fits_more a f.1, fits_more b f.2)
    fits_more (Choose c x y) f = (fits_more c f.0, fits_more x f.1, fits_more y f.2)
    fits_more (Gate op es) f = (f.0, f.1, all_fit_more es f.2)
    fits_more (Join es) f = (f.0, all_fit_more es f.1)
    fits_more (Repeat n es) f = (f.0, f.1, all_fit_more es f.2)

    pub all_fit_more : (es : Exprs) → AllFit wid ok es → AllFit wid more es
    all_fit_more no_exprs f = f
    all_fit_more (expr e es) f = (fits_more e f.0, all_fit_more es f.1)

module _ (wid : ℕ → ℕ) (ok more : Done → (sig at width : ℕ) → Type 0) (h : (d : Done) (s at w : ℕ) → ok d s at w → more d s at w) where
  mutual
    target_fits_more : (d : Done) (t : Target) → FitsTarget wid ok d t → FitsTarget wid more d t
    target_fits_more d (Whole s) f = f
    target_fits_more d (Part s at w) f = f
    target_fits_more d (Pick s e) f = (f.0, fits_more wid (ok d) (more d) (h d) e f.1)
    target_fits_more d (Group gs) f = targets_fit_more d gs f

    targets_fit_more : (d : Done) (gs : Targets) → FitTargets wid ok d gs → FitTargets wid more d gs
    targets_fit_more d no_targets f = f
    targets_fit_more d (target g gs) f = (target_fits_more d g f.0, targets_fit_more d gs f.1)

  mutual
    pub stmt_fits_more : (d : Done) (s : Stmt) → FitsStmt wid ok d s → FitsStmt wid more d s
    stmt_fits_more d Null f = f
    stmt_fits_more d (Set b t e) f = (fits_more wid (ok d) (more d) (h d) e f.0, target_fits_more d t f.1)
    stmt_fits_more d (If c x y) f = (fits_more wid (ok d) (more d) (h d) c f.0, stmt_fits_more d x f.1, stmt_fits_more d y f.2)
    stmt_fits_more d (Case e is) f = (fits_more wid (ok d) (more d) (h d) e f.0, items_fit_more d is f.1)
    stmt_fits_more d (Block ss) f = stmts_fit_more d ss f

    items_fit_more : (d : Done) (is : Items) → FitItems wid ok d is → FitItems wid more d is
    items_fit_more d no_items f = f
    items_fit_more d (default_item body) f = stmt_fits_more d body f
    items_fit_more d (item ls body rest) f = (all_fit_more wid (ok d) (more d) (h d) ls f.0, stmt_fits_more d body f.1, items_fit_more d rest f.2)

    stmts_fit_more : (d : Done) (ss : Stmts) → FitStmts wid ok d ss → FitStmts wid more d ss
    stmts_fit_more d no_stmts f = f
    stmts_fit_more d (stmt s ss) f = (stmt_fits_more d s f.0, stmts_fit_more (surely wid s d) ss f.1)

module _ (f : Flat) where
  within : (s at w : ℕ) → MayBe (inside f) s at w → IsWithin (size_in f) s at w
  within s at w h = leb-true (at + w) (size_in f s) (and_parts (nat_lt 0 w) (nat_le (at + w) (size_in f s)) h).1

  within_process : (body : Stmt) (d : Done) (s at w : ℕ) → MayRead (size_in f) (inside f) (assigns body) d s at w → IsWithin (size_in f) s at w
  within_process body d s at w h = by_bool (assigns body s) (λ e. (h.1 e).0) (λ e. within s at w (h.0 e))

  mutual
    driven_fits : (done : Done) (t : Target) → DrivesWires f t → FitsTarget (size_in f) (λ d. IsWithin (size_in f)) done t
    driven_fits done (Whole s) h = tt
    driven_fits done (Part s at w) h = h.2
    driven_fits done (Pick s e) h = absurd h
    driven_fits done (Group gs) h = all_driven_fit done gs h

    all_driven_fit : (done : Done) (gs : Targets) → AllDriveWires f gs → FitTargets (size_in f) (λ d. IsWithin (size_in f)) done gs
    all_driven_fit done no_targets h = tt
    all_driven_fit done (target g gs) h = (driven_fits done g h.0, all_driven_fit done gs h.1)

  nothing : Done
  nothing x i = false

  pub assigns_read : (xs : List FlatAssign) → list_all (λ (a : FlatAssign). (target_kept (size_in f) a.target).right && is_sized a.value) xs ≡ true → Each (IsSoundAssign f) (map assign_of xs) → Each (IsAssignRead (size_in f)) xs
  assigns_read [] h k = tt
  assigns_read (a ∷ xs) h k =
      let p = and_parts ((target_kept (size_in f) a.target).right && is_sized a.value) (list_all (λ (a : FlatAssign). (target_kept (size_in f) a.target).right && is_sized a.value) xs) h in
      let q = and_parts (target_kept (size_in f) a.target).right (is_sized a.value) p.0 in (
        record {
          target = record { sized = q.0; done = nothing; fits = driven_fits nothing (target_of a.target) k.0.1 };
          value = record { sized = q.1; fits = fits_more (size_in f) (MayBe (inside f)) (IsWithin (size_in f)) within (expr_of a.value) k.0.0 };
        },
        assigns_read xs p.1 k.1,
      )

  pub combs_read : (xs : List FlatComb) → list_all (λ (p : FlatComb). is_stmt_sized (size_in f) p.body) xs ≡ true → Each (IsSoundComb f) (map (λ (p : FlatComb). stmt_of p.body) xs) → Each (λ (p : FlatComb). IsStmtRead (size_in f) p.body) xs
  combs_read [] h k = tt
  combs_read (a ∷ xs) h k =
      let p = and_parts (is_stmt_sized (size_in f) a.body) (list_all (λ (p : FlatComb). is_stmt_sized (size_in f) p.body) xs) h in (
        record {
          sized = p.0;
          done = λ x i. false;
          fits = stmt_fits_more (size_in f) (MayRead (size_in f) (inside f) (assigns (stmt_of a.body))) (λ d. IsWithin (size_in f)) (within_process (stmt_of a.body)) (λ x i. false) (stmt_of a.body) k.0.fits;
        },
        combs_read xs p.1 k.1,
      )

  pub clocked_read : (xs : List FlatClocked) → list_all (λ (p : FlatClocked). is_stmt_sized (size_in f) p.body) xs ≡ true
      → Each (λ (p : ℕ × Stmt). IsSoundClocked f p.1) (map (λ (p : FlatClocked). (p.clock, stmt_of p.body)) xs) → Each (λ (p : ℕ × Stmt). 1 ≤ size_in f p.0) (map (λ (p : FlatClocked). (p.clock, stmt_of p.body)) xs)
      → Each (λ (p : FlatClocked). IsStmtRead (size_in f) p.body × (1 ≤ size_in f p.clock)) xs
  clocked_read [] h k l = tt
  clocked_read (a ∷ xs) h k l =
      let p = and_parts (is_stmt_sized (size_in f) a.body) (list_all (λ (p : FlatClocked). is_stmt_sized (size_in f) p.body) xs) h in (
        (
          record {
            sized = p.0;
            done = λ x i. true;
            fits = stmt_fits_more (size_in f) (λ d. MayBe (inside f)) (λ d. IsWithin (size_in f)) (λ d. within) (λ x i. true) (stmt_of a.body) k.0.fits;
          },
          l.0,
        ),
        clocked_read xs p.1 k.1 l.1,
      )

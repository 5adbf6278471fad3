-- What the first branch of reset form keeps, row by row.
use Rattle.std.proofs.Common.{◌≡◌, ℕ, Bool, true, false, cond, ◌&&◌, List, [], ◌∷◌, ◌++◌, map, Option, Some, None, refl, sym, ap, subst, ◌∙◌, rules}
use Rattle.std.specs.Prelude.{slice_get, option_map}
use Rattle.std.specs.Option.{option_map_or}
use Rattle.std.proofs.lemmas.Bool.{and_parts}
use Rattle.flat_meaning.specs.Flat.{Target, Stmt, Block, Stmts, no_stmts, stmt}
use Rattle.flat_form.specs.declared.flat.FExpr.{FExpr}
use Rattle.flat_form.specs.declared.flat.FTarget.{FTarget}
use Rattle.flat_form.specs.declared.flat.FTarget.TheVariants as g
use Rattle.flat_form.specs.declared.flat.FTarget.TheOpen.{FTarget-F}
use Rattle.flat_form.specs.declared.flat.FTarget.TheFolds.{fold-roll-FTarget}
use Rattle.flat_form.specs.declared.flat.FStmt.{FStmt}
use Rattle.flat_form.specs.declared.flat.FStmt.TheVariants as t
use Rattle.flat_form.specs.declared.flat.FStmt.TheOpen.{FStmt-F}
use Rattle.flat_form.specs.declared.flat.FStmt.TheFolds.{fold-roll-FStmt}
use Rattle.flat_form.specs.View.{stmt_of, stmts_of, target_of}
use Rattle.flat_form.proofs.StmtFolds.{stmt_of-Set, stmt_of-Block}
use Rattle.flat_unfolding.specs.Names as n
use Rattle.flat_unfolding.specs.Names.{width_of, width_at}
use Rattle.flat_unfolding.specs.Widths.{all_true, target_step, target_keeps_sizes, stmt_step, arm_step, stmt_keeps_sizes}
use Rattle.flat_unfolding.specs.Processes.{as_one, kept, branch_kept, rows_kept}
use Rattle.flat_names.specs.declared.design.Entry.{Entry}
use Rattle.flat_names.specs.declared.scope.Look.{Look}
use Rattle.flat_names.specs.Looks.{Seen, seen, shown, Shows}
use Rattle.flat_names.proofs.Looked.{entry-is}
use Rattle.flat_names.proofs.Options.{none-some}
use Rattle.flat_process.specs.Kept.{in_front, Grow, Grew}

-- ---- one row after the other

pub grew-none : (rows : List FStmt) → Grew (λ rest. rest) rows rows
grew-none rows = record { rows = λ rest. refl; sizes = λ h. h }

pub grow-on : (one left all : Stmts → Stmts) (old now new : List FStmt) → Grow (λ rest. one (left rest)) all old now → Grew one now new → Grow left all old new
grow-on one left all old now new h a = record { rows = λ rest. a.rows (left rest) ∙ h.rows rest; sizes = λ s. a.sizes (h.sizes s) }

front-push : (ss : List FStmt) (x : FStmt) (rest : Stmts) → in_front (map stmt_of (ss ++ x ∷ [])) rest ≡ in_front (map stmt_of ss) (stmt (stmt_of x) rest)
front-push [] x rest = refl
front-push (s ∷ ss) x rest = ap (stmt (stmt_of s)) (front-push ss x rest)

pub both-true : (a b : Bool) → a ≡ true → b ≡ true → (a && b) ≡ true
both-true true b e h = h
both-true false b e h = absurd (search (rules, e))

sizes-push : (ss : List FStmt) (x : FStmt) → all_true (map stmt_keeps_sizes ss) ≡ true → stmt_keeps_sizes x ≡ true → all_true (map stmt_keeps_sizes (ss ++ x ∷ [])) ≡ true
sizes-push [] x h e = both-true (stmt_keeps_sizes x) true e refl
sizes-push (s ∷ ss) x h e = let p = and_parts (stmt_keeps_sizes s) (all_true (map stmt_keeps_sizes ss)) h in both-true (stmt_keeps_sizes s) _ p.0 (sizes-push ss x p.1 e)

-- ---- an assignment that is kept where the body assigns nothing of the signal

pub grew-one : (b : Bool) (y : Stmt) (x : FStmt) (rows : List FStmt) → b ≡ false → stmt_of x ≡ y → stmt_keeps_sizes x ≡ true → Grew (λ rest. cond b rest (stmt y rest)) rows (rows ++ x ∷ [])
grew-one false y x rows e i s = record { rows = λ rest. front-push rows x rest ∙ ap (λ z. in_front (map stmt_of rows) (stmt z rest)) i; sizes = λ h. sizes-push rows x h s }
grew-one true y x rows e i s = absurd (search (rules, e))

-- ---- branches and targets as the code meets them

module _ (wid : ℕ → ℕ) (body : Stmt) where
  -- the branch is this statement
  branch-is : (x y : Stmt) (old new : List FStmt) → x ≡ y → Grew (branch_kept wid body y) old new → Grew (branch_kept wid body x) old new
  branch-is x y old new e h = subst (λ z. Grew (branch_kept wid body z) old new) (sym e) h

  pub kept-set : (x : FStmt) (b : Bool) (a : FTarget) (v : FExpr) (old new : List FStmt) → x ≡ t.Set b a v → Grew (kept wid body (target_of a)) old new → Grew (branch_kept wid body (stmt_of x)) old new
  kept-set x b a v old new e h = branch-is (stmt_of x) _ old new (ap stmt_of e ∙ stmt_of-Set b a v) h

  pub kept-block : (x : FStmt) (ss : List FStmt) (old new : List FStmt) → x ≡ t.Block ss → Grew (rows_kept wid body (stmts_of (map stmt_of ss))) old new → Grew (branch_kept wid body (stmt_of x)) old new
  kept-block x ss old new e h = branch-is (stmt_of x) _ old new (ap stmt_of e ∙ stmt_of-Block ss) h

  -- the target is this one
  pub target-is : (x y : Target) (old new : List FStmt) → x ≡ y → Grew (kept wid body y) old new → Grew (kept wid body x) old new
  target-is x y old new e h = subst (λ z. Grew (kept wid body z) old new) (sym e) h

-- ---- the whole

blocked : (ss : List FStmt) (x : FStmt) → stmts_of (map stmt_of (ss ++ x ∷ [])) ≡ in_front (map stmt_of ss) (stmt (stmt_of x) no_stmts)
blocked [] x = refl
blocked (s ∷ ss) x = ap (stmt (stmt_of s)) (blocked ss x)

-- behind a row stands another one
as-block : (s : Stmt) (ss : List Stmt) (x : Stmt) → as_one (stmt s (in_front ss (stmt x no_stmts))) ≡ Block (stmt s (in_front ss (stmt x no_stmts)))
as-block s [] x = refl
as-block s (y ∷ ss) x = refl

pub behind-rows : (rows : List FStmt) (x : FStmt) (b : Bool) → (rows ≡ [] → b ≡ true) → b ≡ false
    → stmt_of (t.Block (rows ++ x ∷ [])) ≡ as_one (in_front (map stmt_of rows) (stmt (stmt_of x) no_stmts))
behind-rows [] x b h e = absurd (search (rules, sym (h refl) ∙ e))
behind-rows (r ∷ rows) x b h e = stmt_of-Block (r ∷ rows ++ x ∷ []) ∙ ap (λ ss. Block (stmt (stmt_of r) ss)) (blocked rows x) ∙ sym (as-block (stmt_of r) (map stmt_of rows) (stmt_of x))

pub behind-sizes : (rows : List FStmt) (x : FStmt) → all_true (map stmt_keeps_sizes rows) ≡ true → stmt_keeps_sizes x ≡ true → stmt_keeps_sizes (t.Block (rows ++ x ∷ [])) ≡ true
behind-sizes rows x h e = ap stmt_keeps_sizes (sym (t.rolls-Block (rows ++ x ∷ []))) ∙ fold-roll-FStmt Bool Bool stmt_step arm_step (FStmt-F.Block (rows ++ x ∷ [])) ∙ sizes-push rows x h e

-- the bits of a signal, none where it isn't declared
pub bits-are : (k : Look) (l : n.Look) → Shows k l → (s : ℕ) → option_map_or (λ (x : Entry). x.width) (slice_get k.entries.now s) 0 ≡ width_at l.entries s
bits-are k l h s = go (slice_get k.entries.now s) (slice_get l.entries s) (entry-is k l h s)
  where
    go : (o : Option Entry) (q : Option n.Entry) → option_map seen o ≡ option_map shown q → option_map_or (λ (x : Entry). x.width) o 0 ≡ option_map_or (λ (x : n.Entry). width_of x.range) q 0
    go None None d = refl
    go None (Some y) d = none-some (shown y) d
    go (Some x) None d = none-some (seen x) (sym d)
    go (Some x) (Some y) d = ap (λ (z : Option Seen). option_map_or (λ (w : Seen). w.width) z 0) d

-- such targets keep no sizes
pub whole-keeps : (s : ℕ) → target_keeps_sizes (g.Whole s) ≡ true
whole-keeps s = ap target_keeps_sizes (sym (g.rolls-Whole s)) ∙ fold-roll-FTarget Bool target_step (FTarget-F.Whole s)

pub part-keeps : (s at w : ℕ) → target_keeps_sizes (g.Part s at w) ≡ true
part-keeps s at w = ap target_keeps_sizes (sym (g.rolls-Part s at w)) ∙ fold-roll-FTarget Bool target_step (FTarget-F.Part s at w)

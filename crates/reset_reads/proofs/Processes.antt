-- The bodies of clocked processes spare the resets among the signals of their module, but for registers of their own.
use Rattle.std.proofs.Common.{◌≡◌, ℕ, ◌<◌, Bool, true, false, cond, ◌||◌, ◌==◌, List, length, Option, Some, None, refl}
use Rattle.std.proofs.lemmas.Bool.{eqb-false}
use Rattle.verilog_ast.specs.declared.Edge.{Edge}
use Rattle.verilog_reading.specs.StmtTree.{StmtTree, null, set, when, either, Subject, switch, switch_else, block, ArmTrees, no_arms, and_arms}
use Rattle.flat_meaning.specs.Flat.{Read, Target, Whole, Part, Pick, Group, Targets, no_targets, target, Stmt, Null, Set, If, Case, Block, Stmts, no_stmts, stmt, assigns, all_assign}
use Rattle.flat_unfolding.specs.Outcome.{Text}
use Rattle.flat_unfolding.specs.Names.{Look, meaning, width_at, reset_at}
use Rattle.flat_unfolding.specs.Statements.{clocked, done}
use Rattle.flat_unfolding.specs.Resets.{peeled, Tested, tested, item_tested, ResetForm, other_branch, left, form_with, items_form, form_in, reset_form}
use Rattle.flat_unfolding.specs.Processes.{has_form, as_one, kept, all_kept, branch_kept, rows_kept, with_kept, form_of, body_without, reset_branch, clocked_body}
use Rattle.flat_unfolding.proofs.Fit.{true_left, true_right}
use Rattle.reset_reads.proofs.Spares.{StmtSpares, StmtsSpare}
use Rattle.reset_reads.proofs.Terms.{IsHeldIf}
use Rattle.reset_reads.proofs.Stmts.{done_spares}

-- ---- what the first branch of reset form keeps

-- statements in front of others read beside them what they assign themselves
record IsKept (rest all : Stmts) : Type 0 where
  pub assigned : (s : ℕ) → all_assign rest s ≡ true → all_assign all s ≡ true
  pub spares : (may : ℕ → Bool) → ((s : ℕ) → all_assign all s ≡ true → may s ≡ true) → StmtsSpare may rest → StmtsSpare may all

nothing_kept : (rest : Stmts) → IsKept rest rest
nothing_kept rest = record { assigned = λ s e. e; spares = λ may a h. h }

kept_both : (rest some all : Stmts) → IsKept rest some → IsKept some all → IsKept rest all
kept_both rest some all h k = record {
  assigned = λ s e. k.assigned s (h.assigned s e);
  spares = λ may a i. k.spares may a (h.spares may (λ s e. a s (k.assigned s e)) i);
}

itself : (s : ℕ) → (s == s) ≡ true
itself s = go (s == s) refl
  where
    go : (b : Bool) → (s == s) ≡ b → b ≡ true
    go true e = refl
    go false e = absurd (eqb-false s s e refl)

module _ (wid : ℕ → ℕ) (body : Stmt) where
  whole_kept : (b : Bool) (s : ℕ) (rest : Stmts) → IsKept rest (cond b rest (stmt (Set false (Whole s) (Read s 0 (wid s))) rest))
  whole_kept true s rest = nothing_kept rest
  whole_kept false s rest = record {
    assigned = λ x e. true_right (x == s) (all_assign rest x) e;
    spares = λ may a h. ((tt, a s (true_left (s == s) (all_assign rest s) (itself s))), h);
  }

  part_kept : (b : Bool) (s at w : ℕ) (rest : Stmts) → IsKept rest (cond b rest (stmt (Set false (Part s at w) (Read s at w)) rest))
  part_kept true s at w rest = nothing_kept rest
  part_kept false s at w rest = record {
    assigned = λ x e. true_right (x == s) (all_assign rest x) e;
    spares = λ may a h. ((tt, a s (true_left (s == s) (all_assign rest s) (itself s))), h);
  }

  mutual
    target_kept : (t : Target) (rest : Stmts) → IsKept rest (kept wid body t rest)
    target_kept (Whole s) rest = whole_kept (assigns body s) s rest
    target_kept (Part s at w) rest = part_kept (assigns body s) s at w rest
    target_kept (Pick s e) rest = nothing_kept rest
    target_kept (Group ts) rest = targets_kept ts rest

    targets_kept : (ts : Targets) (rest : Stmts) → IsKept rest (all_kept wid body ts rest)
    targets_kept no_targets rest = nothing_kept rest
    targets_kept (target t ts) rest = let some = all_kept wid body ts rest in kept_both rest some (kept wid body t some) (targets_kept ts rest) (target_kept t some)

  mutual
    stmt_kept : (x : Stmt) (rest : Stmts) → IsKept rest (branch_kept wid body x rest)
    stmt_kept Null rest = nothing_kept rest
    stmt_kept (Set b t e) rest = target_kept t rest
    stmt_kept (If c x y) rest = nothing_kept rest
    stmt_kept (Case e is) rest = nothing_kept rest
    stmt_kept (Block ss) rest = stmts_kept ss rest

    stmts_kept : (ss : Stmts) (rest : Stmts) → IsKept rest (rows_kept wid body ss rest)
    stmts_kept no_stmts rest = nothing_kept rest
    stmts_kept (stmt s ss) rest = let some = rows_kept wid body ss rest in kept_both rest some (branch_kept wid body s some) (stmts_kept ss rest) (stmt_kept s some)

one_spares : (may : ℕ → Bool) (ss : Stmts) → StmtsSpare may ss → StmtSpares may (as_one ss)
one_spares may no_stmts h = h
one_spares may (stmt s no_stmts) h = h.0
one_spares may (stmt s (stmt x ss)) h = h

one_assigns : (ss : Stmts) (s : ℕ) → all_assign ss s ≡ true → assigns (as_one ss) s ≡ true
one_assigns no_stmts s e = e
one_assigns (stmt x no_stmts) s e = go (assigns x s) e
  where
    go : (b : Bool) → (b || false) ≡ true → b ≡ true
    go true e = refl
    go false e = e
one_assigns (stmt x (stmt y ss)) s e = e

with_kept_spares : (wid : ℕ → ℕ) (body branch : Stmt) (may : ℕ → Bool) → ((s : ℕ) → assigns (with_kept wid body branch) s ≡ true → may s ≡ true) → StmtSpares may body
    → StmtSpares may (with_kept wid body branch)
with_kept_spares wid body branch may a h =
    let all = branch_kept wid body branch (stmt body no_stmts) in
    one_spares may all ((stmt_kept wid body branch (stmt body no_stmts)).spares may (λ s e. a s (one_assigns all s e)) (h, tt))

-- ---- what reset form leaves

module _ (may : ℕ → Bool) (look : Look) (free : (s : ℕ) → s < length look.entries → reset_at look.entries s ≡ None → may s ≡ true) (known : (x : Text) → IsHeldIf (length look.entries) (meaning look x)) where
  body_spares : (body : StmtTree) → StmtSpares may (done look clocked body).stmt
  body_spares = done_spares may look free known clocked

  abbrev LeftSpares : Option ResetForm → Type 0
  LeftSpares None = Unit {0}
  LeftSpares (Some f) = StmtSpares may f.rest

  other_spares : (x : Stmt) → StmtSpares may x → StmtSpares may (other_branch x)
  other_spares Null h = h
  other_spares (Set b t e) h = h
  other_spares (If c x y) h = h.2
  other_spares (Case e is) h = h
  other_spares (Block ss) h = h

  left_spares : (b : Bool) (x : Stmt) → StmtSpares may x → StmtSpares may (left b x)
  left_spares true x h = other_spares x h
  left_spares false x h = h

  form_spares : (o : Option Tested) (x all : StmtTree) → LeftSpares (form_with look o x all)
  form_spares None x all = tt
  form_spares (Some q) x all = left_spares q.alone (done look clocked all).stmt (body_spares all)

  items_form_spares : (c : Subject) (rows : ArmTrees) (all : StmtTree) → LeftSpares (items_form look c rows all)
  items_form_spares c no_arms all = tt
  items_form_spares c (and_arms labels x rest) all = go c.masks
    where
      go : (b : Bool) → LeftSpares (cond b (form_with look (item_tested look c.value (and_arms labels x rest)) x all) None)
      go true = form_spares (item_tested look c.value (and_arms labels x rest)) x all
      go false = tt

  form_in_spares : (body : StmtTree) → LeftSpares (form_in look body)
  form_in_spares (when c x) = form_spares (tested look c) x (when c x)
  form_in_spares (either c x y) = form_spares (tested look c) x (either c x y)
  form_in_spares (switch c rows) = items_form_spares c rows (switch c rows)
  form_in_spares (switch_else c rows x) = items_form_spares c rows (switch_else c rows x)
  form_in_spares null = tt
  form_in_spares (set b delay t v) = tt
  form_in_spares (block rows) = tt

  form_of_spares : (edges : List Edge) (body : StmtTree) → LeftSpares (form_of look edges body)
  form_of_spares edges body = go (has_form edges)
    where
      go : (b : Bool) → LeftSpares (cond b (reset_form look body) None)
      go true = form_in_spares (peeled body)
      go false = tt

  without_spares : (body : StmtTree) (o : Option ResetForm) → LeftSpares o → StmtSpares may (body_without look body o)
  without_spares body None h = body_spares body
  without_spares body (Some f) h = h

  -- a body spares what may not be read, but for what it assigns
  pub clocked_spares : (edges : List Edge) (body : StmtTree) → ((s : ℕ) → assigns (clocked_body look edges body) s ≡ true → may s ≡ true) → StmtSpares may (clocked_body look edges body)
  clocked_spares edges body own =
      let o = form_of look edges body in
      with_kept_spares (width_at look.entries) (body_without look body o) (reset_branch look o) may own (without_spares body o (form_of_spares edges body))

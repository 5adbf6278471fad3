-- The trees of a process read what they are made of.
use Rattle.std.proofs.Common.{◌≡◌, ℕ, zero, suc, ◌^◌, ◌≤◌, Bool, true, false, cond, ◌||◌, ◌==◌, refl, sym, ap, arith, pow_pos}
use Rattle.cell_graph.specs.Tree.{Tree, Mux}
use Rattle.flat_meaning.specs.Flat.{Exprs, no_exprs, expr, Target, Whole, Part, Pick, Group, Targets, no_targets, target, Stmt, Null, Set, If, Case, Block, Items, no_items, default_item, item, Stmts, no_stmts, stmt, size, case_size, target_size, target_sizes, value_size, assigns, case_assigns}
use Rattle.flat_meaning.specs.Full.{is_full}
use Rattle.flat_meaning.specs.Trees.{Selects, Trees, change_tree, picked, merge, any_label, label_tree, put_tree, put_trees, after, after_case, after_all}
use Rattle.flat_meaning.specs.Fits.{AllFit}
use Rattle.flat_meaning.specs.Deps.{Bits, Deps, union, replace, merge_deps, reads, all_reads, put_deps, puts_deps, deps, case_deps, all_deps}
use Rattle.flat_meaning.specs.Assigned.{Done, surely, FitsTarget, FitTargets, FitsStmt, FitItems, FitStmts}
use Rattle.flat_reads.specs.Filled.{AreFilled, HasLabel, IsTargetFilled, AreTargetsFilled, IsStmtFilled, AreItemsFilled, AreStmtsFilled}
use Rattle.flat_reads.proofs.Cells.{or_none, or_more, Reads, reads_as, slice_reads, cut_reads, truth_reads, or_reads, eq_reads, mux_reads, part_reads, picked_reads}
use Rattle.flat_reads.proofs.Expressions.{tree_reads}

-- each signal's tree reads the signal's set
abbrev pub AllRead : Deps → Trees → Type 0
AllRead m ts = (x : ℕ) → Reads (ts x) (m x)

changed : {m : Deps} {ts : Trees} {t : Tree} {b : Bits} (s : ℕ) → Reads t b → AllRead m ts → AllRead (replace s b m) (change_tree s t ts)
changed {m} {ts} {t} {b} s p a x = go (x == s)
  where
    go : (u : Bool) → Reads (cond u t (ts x)) (cond u b (m x))
    go true = p
    go false = a x

merged : {m o p : Deps} {ts us vs : Trees} {t : Tree} {b : Bits} (assigned : ℕ → Bool) → Reads t b → AllRead m ts → AllRead o us → AllRead p vs → AllRead (merge_deps assigned b m o p) (merge assigned t ts us vs)
merged {m} {o} {p} {ts} {us} {vs} {t} {b} assigned h i k l x = go (assigned x)
  where
    go : (u : Bool) → Reads (cond u (Mux t (ts x) (us x)) (vs x)) (cond u (union b (union (m x) (o x))) (p x))
    go true = mux_reads h (i x) (k x)
    go false = l x

either : {m o : Deps} {ts us : Trees} (full : Bool) → AllRead m ts → AllRead o us → AllRead (cond full m o) (cond full ts us)
either true h k = h
either false h k = k

module _ (wid : ℕ → ℕ) (ok : Done → (sig at width : ℕ) → Type 0) (through : Deps → (sig at width : ℕ) → Bits) where
  -- an assignment whose value and indices read through the sets r
  module _ (sel : Selects) (r : Deps) (done : Done) (sees : (s at w : ℕ) → Reads (sel s at w) (through r s at w)) where
    picked_in : {index new old : Tree} {a b c : Bits} (m n : ℕ) → 2 ^ m ≤ n → Reads index a → Reads new b → Reads old c → Reads (picked index m new old n) (union a (union b c))
    picked_in m zero h p q o = let k = pow_pos m in absurd (omega arith)
    picked_in m (suc n) h p q o = picked_reads m n p q o

    mutual
      put_reads : {m : Deps} {ts : Trees} {new : Tree} {b : Bits} (t : Target) → FitsTarget wid ok done t → IsTargetFilled t → Reads new b → AllRead m ts → AllRead (put_deps wid through r t b m) (put_tree wid sel t new ts)
      put_reads (Whole s) f h p a = changed s p a
      put_reads (Part s at w) f h p a = changed s (part_reads (wid s) at w h f p (a s)) a
      put_reads (Pick s e) f h p a = changed s (picked_in (size e) (wid s) f.0 (tree_reads wid sel (ok done) through r sees e f.1 h (size e)) p (a s)) a
      put_reads (Group gs) f h p a = puts_reads gs f h p a

      puts_reads : {m : Deps} {ts : Trees} {new : Tree} {b : Bits} (gs : Targets) → FitTargets wid ok done gs → AreTargetsFilled gs → Reads new b → AllRead m ts → AllRead (puts_deps wid through r gs b m) (put_trees wid sel gs new ts)
      puts_reads no_targets f h p a = a
      puts_reads (target g gs) f h p a = puts_reads gs f.1 h.1 p (put_reads g f.0 h.0 (slice_reads p (target_sizes wid gs) (target_size wid g)) a)

    module _ (w : ℕ) {subject : Tree} {b : Bits} (p : Reads subject b) where
      any_label_reads : (es : Exprs) (t : Tree) (c : Bits) → AllFit wid (ok done) es → AreFilled es → Reads t (union b c) → Reads (any_label wid sel w subject t es) (union b (union c (all_reads wid through r es)))
      any_label_reads no_exprs t c f h q = reads_as q (λ s j. ap (λ x. b s j || x) (sym (or_none (c s j))))
      any_label_reads (expr e es) t c f h q =
          let n = tree_reads wid sel (ok done) through r sees e f.0 h.1 w in
          reads_as (any_label_reads es _ _ f.1 h.2 (reads_as (or_reads q (eq_reads p n)) (λ s j. once (b s j) (c s j) (reads wid through r e s j))))
          (λ s j. ap (λ x. b s j || x) (or_more (c s j) (reads wid through r e s j) (all_reads wid through r es s j)))
        where
          once : (b c n : Bool) → ((b || c) || (b || n)) ≡ (b || (c || n))
          once true c n = refl
          once false c n = refl

      label_reads : (es : Exprs) → HasLabel es → AllFit wid (ok done) es → AreFilled es → Reads (label_tree wid sel w subject es) (union b (all_reads wid through r es))
      label_reads no_exprs l f h = absurd l
      label_reads (expr e es) l f h = any_label_reads es _ _ f.1 h.2 (eq_reads p (tree_reads wid sel (ok done) through r sees e f.0 h.1 w))

  module _ (look : Trees → Selects) (sees : (m : Deps) (ts : Trees) → AllRead m ts → (s at w : ℕ) → Reads (look ts s at w) (through m s at w)) where
    mutual
      pub after_reads : {m : Deps} {ts : Trees} (x : Stmt) (done : Done) → FitsStmt wid ok done x → IsStmtFilled x → AllRead m ts → AllRead (deps wid through x m) (after wid look x ts)
      after_reads Null done f h a = a
      after_reads {m} {ts} (Set b t e) done f h a = put_reads (look ts) m done (sees m ts a) t f.1 h.0
          (cut_reads (tree_reads wid (look ts) (ok done) through m (sees m ts a) e f.0 h.1 (value_size wid t e)) (value_size wid t e) 0 (target_size wid t)) a
      after_reads {m} {ts} (If c x y) done f h a = merged (λ z. assigns x z || assigns y z)
          (truth_reads (tree_reads wid (look ts) (ok done) through m (sees m ts a) c f.0 h.0 (size c)) (size c))
          (after_reads x done f.1 h.1 a) (after_reads y done f.2 h.2 a) a
      after_reads {m} {ts} (Case e is) done f h a = case_reads (is_full (case_size e is) is) (case_size e is) is done f.1 h.1
          (tree_reads wid (look ts) (ok done) through m (sees m ts a) e f.0 h.0 (case_size e is)) a a
      after_reads (Block ss) done f h a = all_read ss done f h a

      case_reads : {m o : Deps} {ts us : Trees} {subject : Tree} {b : Bits} (full : Bool) (w : ℕ) (is : Items) (done : Done) → FitItems wid ok done is → AreItemsFilled is → Reads subject b → AllRead m ts → AllRead o us
          → AllRead (case_deps wid through full b o is m) (after_case wid look full w subject us is ts)
      case_reads full w no_items done f h p a c = c
      case_reads full w (default_item body) done f h p a c = after_reads body done f h a
      case_reads {m} {o} {ts} {us} full w (item ls body rest) done f h p a c =
          let x = after_reads body done f.1 h.2 a in
          merged (λ z. assigns body z || case_assigns rest z) (label_reads (look ts) m done (sees m ts a) w p ls h.0 f.0 h.1)
          x (case_reads full w rest done f.2 h.3 p a (either full x c)) a

      all_read : {m : Deps} {ts : Trees} (ss : Stmts) (done : Done) → FitStmts wid ok done ss → AreStmtsFilled ss → AllRead m ts → AllRead (all_deps wid through ss m) (after_all wid look ss ts)
      all_read no_stmts done f h a = a
      all_read (stmt s ss) done f h a = all_read ss (surely wid s done) f.1 h.1 (after_reads s done f.0 h.0 a)

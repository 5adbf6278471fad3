-- Statements as they are read spare the resets among the signals of their module.
use Rattle.std.proofs.Common.{◌≡◌, ℕ, zero, suc, ◌<◌, Bool, true, false, cond, ◌&&◌, List, [], ◌∷◌, length, map, None}
use Rattle.verilog_reading.specs.StmtTree.{StmtTree, null, set, when, either, switch, switch_else, block, StmtTrees, no_rows, and_rows, LabelTree, by_value, by_mask, ArmTrees, no_arms, and_arms}
use Rattle.flat_meaning.specs.Flat.{Expr, Binary, logical_or, size, case_size, Stmt, Null, Items, no_items, default_item, item}
use Rattle.flat_meaning.specs.Full.{is_full}
use Rattle.flat_unfolding.specs.Outcome.{Text}
use Rattle.flat_unfolding.specs.Names.{Memory, Look, meaning, reset_at}
use Rattle.flat_unfolding.specs.Expressions.{Term, is_sound, joined, read}
use Rattle.flat_unfolding.specs.Targets.{Goal, fixed, a_word, goal}
use Rattle.flat_unfolding.specs.Memories.{writes_from}
use Rattle.flat_unfolding.specs.Statements.{Kind, Done, Arms, Mask, without_open, mask_test, also_tests, way_test, chain, chained, ways_size, nothing_done, word_set, with_last, missing_last, label_term, read_list, mask_of, done, done_all, arms, ways}
use Rattle.reset_reads.proofs.Spares.{Spares, AllSpare, StmtSpares, ItemsSpare, StmtsSpare}
use Rattle.reset_reads.proofs.Terms.{IsHeldIf, read_spares}
use Rattle.reset_reads.proofs.Aims.{IsGoalSpare, goal_spares}

module _ (may : ℕ → Bool) (look : Look) (free : (s : ℕ) → s < length look.entries → reset_at look.entries s ≡ None → may s ≡ true) (known : (x : Text) → IsHeldIf (length look.entries) (meaning look x)) where
  module _ (kind : Kind) where
    -- ---- assignments

    writes_spare : (m : Memory) (i v : Expr) → Spares may i → Spares may v → (n more : ℕ) → StmtsSpare may (writes_from m i v n more)
    writes_spare m i v h k n zero = tt
    writes_spare m i v h k n (suc more) = (((h, tt), (tt, k), tt), writes_spare m i v h k (suc n) more)

    word_set_spares : (blocking : Bool) (g : Goal) (v : Expr) → IsGoalSpare may look free known g → Spares may v → StmtSpares may (word_set blocking g v)
    word_set_spares blocking (fixed a) v h k = (h, k)
    word_set_spares true (a_word m i bs) v h k = (tt, (h, (k, tt)))
    word_set_spares false (a_word m i bs) v h k = writes_spare m i v h k 0 _

    -- ---- items of a `case`

    last_spares : (is last : Items) → ItemsSpare may is → ItemsSpare may last → ItemsSpare may (with_last is last)
    last_spares no_items last h k = k
    last_spares (default_item s) last h k = h
    last_spares (item ls s rest) last h k = (h.0, h.1, last_spares rest last h.2 k)

    missing_spares : (e : Term) (rows : Arms) → ItemsSpare may (missing_last e rows)
    missing_spares e rows = go (is_sound e && rows.is_sound && rows.is_constant && is_full (case_size e.expr rows.items) rows.items)
      where
        go : (b : Bool) → ItemsSpare may (cond b no_items (default_item Null))
        go true = tt
        go false = tt

    label_spares : (a : LabelTree) → Spares may (label_term look kind a).expr
    label_spares (by_value e) = read_spares may look free known e
    label_spares (by_mask v opened w) = tt

    labels_spare : (ls : List LabelTree) → AllSpare may (joined (read_list look kind ls))
    labels_spare [] = tt
    labels_spare (a ∷ ls) = (label_spares a, labels_spare ls)

    -- ---- items of a `casez`

    module _ (w : ℕ) (s : Expr) (spare : Spares may s) where
      open_spares : (opened : ℕ) → Spares may (without_open w s opened)
      open_spares zero = spare
      open_spares (suc n) = (spare, tt)

      test_spares : (m : Mask) → Spares may (mask_test w s m)
      test_spares m = (open_spares m.opened, tt)

      tests_spare : (ms : List Mask) (e : Expr) → Spares may e → Spares may (also_tests w s e ms)
      tests_spare [] e h = h
      tests_spare (m ∷ ms) e h = tests_spare ms (Binary logical_or e (mask_test w s m)) (h, test_spares m)

      way_spares : (ms : List Mask) → Spares may (way_test w s ms)
      way_spares [] = tt
      way_spares (m ∷ ms) = tests_spare ms (mask_test w s m) (test_spares m)

    -- of a `casez` and of a `case`
    either_spares : (b : Bool) (x y : Done) → StmtSpares may x.stmt → StmtSpares may y.stmt → StmtSpares may (cond b x y).stmt
    either_spares true x y h k = h
    either_spares false x y h k = k

    -- ---- statements

    mutual
      pub done_spares : (s : StmtTree) → StmtSpares may (done look kind s).stmt
      done_spares null = tt
      done_spares (set blocking delay t v) = word_set_spares blocking (goal look t) (read look v).expr (goal_spares may look free known t) (read_spares may look free known v)
      done_spares (when c s) = (read_spares may look free known c, done_spares s, tt)
      done_spares (either c s z) = (read_spares may look free known c, done_spares s, done_spares z)
      done_spares (switch c rows) =
          let k = read look c.value in let v = read_spares may look free known c.value in
          either_spares c.masks (chained k (ways look kind rows) nothing_done) _ (ways_spare (ways_size (size k.expr) (ways look kind rows)) k.expr v Null tt rows)
          (v, last_spares (arms look kind rows).items (missing_last k (arms look kind rows)) (arms_spare rows) (missing_spares k (arms look kind rows)))
      done_spares (switch_else c rows d) =
          let k = read look c.value in let v = read_spares may look free known c.value in let z = done look kind d in
          either_spares c.masks (chained k (ways look kind rows) z) _ (ways_spare (ways_size (size k.expr) (ways look kind rows)) k.expr v z.stmt (done_spares d) rows)
          (v, last_spares (arms look kind rows).items (default_item z.stmt) (arms_spare rows) (done_spares d))
      done_spares (block rows) = all_done_spare rows

      all_done_spare : (ss : StmtTrees) → StmtsSpare may (done_all look kind ss).stmts
      all_done_spare no_rows = tt
      all_done_spare (and_rows s rest) = (done_spares s, all_done_spare rest)

      arms_spare : (rows : ArmTrees) → ItemsSpare may (arms look kind rows).items
      arms_spare no_arms = tt
      arms_spare (and_arms labels s rest) = (labels_spare labels, done_spares s, arms_spare rest)

      ways_spare : (w : ℕ) (s : Expr) → Spares may s → (last : Stmt) → StmtSpares may last → (rows : ArmTrees) → StmtSpares may (chain w s (ways look kind rows) last)
      ways_spare w s h last k no_arms = k
      ways_spare w s h last k (and_arms labels b rest) = (way_spares w s h (map (mask_of look kind) labels), done_spares b, ways_spare w s h last k rest)

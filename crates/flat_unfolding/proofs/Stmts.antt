-- Statements that break no rule are well sized.
use Rattle.std.proofs.Common.{◌≡◌, ℕ, zero, suc, ◌+◌, ◌-◌, ◌^◌, ◌<◌, ◌≤◌, max, Bool, true, false, cond, ◌&&◌, List, [], ◌∷◌, ◌++◌, refl, arith, rules}
use Rattle.std.specs.Prelude.{All, map}
use Rattle.std.proofs.lemmas.Nat.{pow_pos}
use Rattle.std.proofs.lemmas.List.Elements.{All-head, All-tail}
use Rattle.verilog_reading.specs.ExprTree.{TargetTree}
use Rattle.verilog_reading.specs.StmtTree.{StmtTree, null, set, when, either, switch, switch_else, block, StmtTrees, no_rows, and_rows, LabelTree, by_value, by_mask, ArmTrees, no_arms, and_arms}
use Rattle.flat_meaning.specs.Flat.{Expr, Binary, logical_or, size, case_size, Stmt, Null, Items, no_items, default_item, item}
use Rattle.flat_meaning.specs.Full.{is_full}
use Rattle.flat_meaning.specs.Law.{AreWords}
use Rattle.flat_unfolding.specs.Outcome.{Text, breaks_if}
use Rattle.flat_unfolding.specs.Names.{Memory, a_memory, Look, meaning, width_at}
use Rattle.flat_unfolding.specs.Expressions.{Term, is_sound, all_broken, joined, read}
use Rattle.flat_unfolding.specs.Targets.{of_registers, Goal, fixed, a_word, goal, first_name}
use Rattle.flat_unfolding.specs.Memories.{writes_from}
use Rattle.cell_graph.proofs.Words.{number-lt}
use Rattle.flat_unfolding.specs.Statements.{Kind, is_stray, Done, Arms, Mask, masks_broken, masks_size, without_open, mask_test, also_tests, way_test, chain, chained, ways_broken, ways_size, nothing_done, word_set, goal_broken, is_word, with_last, missing_last, set_done, label_term, read_list, mask_of, done, done_all, arms, ways}
use Rattle.flat_unfolding.specs.Formed.{IsLabelFormed, AreLabels, IsStmtFormed, AreRowsFormed, AreArmsFormed}
use Rattle.flat_unfolding.specs.Sized.{IsSized, AreSized, AreLabelsSized, IsStmtSized, AreItemsSized, AreStmtsSized}
use Rattle.flat_unfolding.proofs.Steps.{not_broken, none_of_both}
use Rattle.flat_unfolding.proofs.Known.{reg_at, Stands, StandsIf}
use Rattle.flat_unfolding.proofs.Terms.{IsWide, max_wide, IsTermSized, sized, size_wide}
use Rattle.flat_unfolding.proofs.Aims.{IsGoalSized, goal_sized}

module _ (look : Look) (words : AreWords (width_at look.entries)) (known : (x : Text) → StandsIf look.entries (meaning look x)) (kind : Kind) where
  abbrev wid : ℕ → ℕ
  wid = width_at look.entries

  abbrev is_reg : ℕ → Bool
  is_reg = reg_at look.entries

  abbrev IsDone : Stmt → Type 0
  IsDone = IsStmtSized wid is_reg

  -- ---- words of memories

  writes_sized : (m : Memory) (i v : Expr) → Stands look.entries (a_memory m) → 2 ^ size i ≤ m.words → IsSized wid i → IsSized wid v → (n more : ℕ) → n + more ≤ 2 ^ size i
      → AreStmtsSized wid is_reg (writes_from m i v n more)
  writes_sized m i v h k s t n zero l = tt
  writes_sized m i v h k s t n (suc more) l =
      let w = size_wide wid words i s in let a : n < m.words = omega arith in let o = h.1 n a in
      (((refl, s, (w.0, w.1, (let b : n < 2 ^ size i = omega arith in b))), ((o.1, o.0), t), tt), writes_sized m i v h k s t (suc n) more (let c : suc n + more ≤ 2 ^ size i = omega arith in c))

  word_set_sized : (blocking : Bool) (g : Goal) (v : Expr) → IsGoalSized look words known of_registers is_reg g → goal_broken g ≡ [] → (blocking && is_word g) ≡ false → IsSized wid v
      → IsDone (word_set blocking g v)
  word_set_sized blocking (fixed a) v h e b s = ((h e).0, s)
  word_set_sized true (a_word m i bs) v h e b s = absurd (search (rules, b))
  word_set_sized false (a_word m i bs) v h e b s = let g = h e in writes_sized m i v g.2 g.0 g.1 s 0 (2 ^ size i) (let l : 0 + 2 ^ size i ≤ 2 ^ size i = omega arith in l)

  set_sized : (blocking : Bool) (t : TargetTree) (g : Goal) (v : Term) → IsGoalSized look words known of_registers is_reg g → IsTermSized look words v
      → (set_done look kind blocking t g v).broken ≡ [] → IsDone (set_done look kind blocking t g v).stmt
  set_sized blocking t g v h k e =
      let stray = breaks_if (is_stray kind blocking) 313 (first_name t) in
      let p = none_of_both (goal_broken g ++ v.broken ++ stray) (breaks_if (blocking && is_word g) 319 (first_name t)) e in
      let q = none_of_both (goal_broken g ++ v.broken) stray p.0 in
      let r = none_of_both (goal_broken g) v.broken q.0 in
      word_set_sized blocking g v.expr h r.0 (not_broken (blocking && is_word g) 319 (first_name t) p.1) (k r.1)

  -- ---- items of a `case`

  last_sized : (is last : Items) → AreItemsSized wid is_reg is → AreItemsSized wid is_reg last → AreItemsSized wid is_reg (with_last is last)
  last_sized no_items last h k = k
  last_sized (default_item s) last h k = h
  last_sized (item ls s rest) last h k = (h.0, h.1, last_sized rest last h.2 k)

  missing_sized : (e : Term) (rows : Arms) → AreItemsSized wid is_reg (missing_last e rows)
  missing_sized e rows = go (is_sound e && rows.is_sound && rows.is_constant && is_full (case_size e.expr rows.items) rows.items)
    where
      go : (b : Bool) → AreItemsSized wid is_reg (cond b no_items (default_item Null))
      go true = tt
      go false = tt

  label_sized : (a : LabelTree) → IsLabelFormed a → (label_term look kind a).broken ≡ [] → IsSized wid (label_term look kind a).expr
  label_sized (by_value e) h n = sized look words known e h n
  label_sized (by_mask v opened w) h n = (h.0, h.1, h.2)

  list_sized : (ls : List LabelTree) → All IsLabelFormed ls → all_broken (read_list look kind ls) ≡ [] → AreSized wid (joined (read_list look kind ls))
  list_sized [] h e = tt
  list_sized (a ∷ ls) h e =
      let p = none_of_both (label_term look kind a).broken (all_broken (read_list look kind ls)) e in
      (label_sized a (All-head IsLabelFormed a ls h) p.0, list_sized ls (All-tail IsLabelFormed a ls h) p.1)

  labels_sized : (ls : List LabelTree) → AreLabels ls → all_broken (read_list look kind ls) ≡ [] → AreLabelsSized wid (joined (read_list look kind ls))
  labels_sized [] h e = absurd h
  labels_sized (a ∷ ls) h e = list_sized (a ∷ ls) h e

  -- ---- items of a `casez`

  mask_sized : (a : LabelTree) → IsLabelFormed a → (mask_of look kind a).term.broken ≡ [] → IsSized wid (mask_of look kind a).term.expr
  mask_sized (by_value e) h n = sized look words known e h (none_of_both (read look e).broken _ n).0
  mask_sized (by_mask v opened w) h n = (h.0, h.1, h.2)

  masks_wide : (n : ℕ) (ls : List LabelTree) → IsWide n → All IsLabelFormed ls → masks_broken (map (mask_of look kind) ls) ≡ [] → IsWide (masks_size n (map (mask_of look kind) ls))
  masks_wide n [] w h e = w
  masks_wide n (a ∷ ls) w h e =
      let m = mask_of look kind a in
      let p = none_of_both m.term.broken (masks_broken (map (mask_of look kind) ls)) e in
      masks_wide (max n (size m.term.expr)) ls (max_wide n (size m.term.expr) w (size_wide wid words m.term.expr (mask_sized a (All-head IsLabelFormed a ls h) p.0)))
      (All-tail IsLabelFormed a ls h) p.1

  some_labels : (ls : List LabelTree) → AreLabels ls → All IsLabelFormed ls
  some_labels [] h = absurd h
  some_labels (a ∷ ls) h = h

  ways_wide : (n : ℕ) (rows : ArmTrees) → IsWide n → AreArmsFormed rows → ways_broken (ways look kind rows) ≡ [] → IsWide (ways_size n (ways look kind rows))
  ways_wide n no_arms w h e = w
  ways_wide n (and_arms labels s rest) w h e =
      let ms = map (mask_of look kind) labels in let a = done look kind s in
      let p = none_of_both (masks_broken ms ++ a.broken) (ways_broken (ways look kind rest)) e in
      let q = none_of_both (masks_broken ms) a.broken p.0 in
      ways_wide (masks_size n ms) rest (masks_wide n labels w (some_labels labels h.0) q.0) h.2 p.1

  module _ (w : ℕ) (wide : IsWide w) (s : Expr) (known_size : IsSized wid s) where
    open_sized : (opened : ℕ) → IsSized wid (without_open w s opened)
    open_sized zero = known_size
    open_sized (suc n) = let p = pow_pos w in (refl, known_size, (wide.0, wide.1, (let l : 2 ^ w - 1 - suc n < 2 ^ w = omega arith in l)))

    test_sized : (m : Mask) → IsSized wid (mask_test w s m)
    test_sized m = (refl, open_sized m.opened, (wide.0, wide.1, number-lt _ w))

    tests_sized : (ms : List Mask) (e : Expr) → IsSized wid e → IsSized wid (also_tests w s e ms)
    tests_sized [] e h = h
    tests_sized (m ∷ ms) e h = tests_sized ms (Binary logical_or e (mask_test w s m)) (refl, h, test_sized m)

    way_sized : (ms : List Mask) → IsSized wid (way_test w s ms)
    way_sized [] = ((let a : 1 ≤ 1 = omega arith in a), (let b : 1 ≤ 64 = omega arith in b), (let c : 0 < 2 ^ 1 = omega arith in c))
    way_sized (m ∷ ms) = tests_sized ms (mask_test w s m) (test_sized m)

  -- of a `casez` and of a `case`
  either_sized : (b : Bool) (x y : Done) → (x.broken ≡ [] → IsDone x.stmt) → (y.broken ≡ [] → IsDone y.stmt) → (cond b x y).broken ≡ [] → IsDone (cond b x y).stmt
  either_sized true x y h k e = h e
  either_sized false x y h k e = k e

  -- ---- statements

  mutual
    pub done_sized : (s : StmtTree) → IsStmtFormed s → (done look kind s).broken ≡ [] → IsDone (done look kind s).stmt
    done_sized null h e = tt
    done_sized (set blocking delay t v) h e = set_sized blocking t (goal look t) (read look v) (goal_sized look words known t h.0) (sized look words known v h.1) e
    done_sized (when c s) h e = let p = none_of_both (read look c).broken (done look kind s).broken e in (sized look words known c h.0 p.0, done_sized s h.1 p.1, tt)
    done_sized (either c s z) h e =
        let p = none_of_both ((read look c).broken ++ (done look kind s).broken) (done look kind z).broken e in
        let q = none_of_both (read look c).broken (done look kind s).broken p.0 in
        (sized look words known c h.0 q.0, done_sized s h.1 q.1, done_sized z h.2 p.1)
    done_sized (switch c rows) h e =
        let k = read look c.value in let a = arms look kind rows in
        either_sized c.masks (chained k (ways look kind rows) nothing_done) _
        (λ n.
        let p = none_of_both (k.broken ++ ways_broken (ways look kind rows)) [] n in
        let q = none_of_both k.broken (ways_broken (ways look kind rows)) p.0 in
        let v = sized look words known c.value h.0 q.0 in
        ways_sized (ways_size (size k.expr) (ways look kind rows)) (ways_wide (size k.expr) rows (size_wide wid words k.expr v) h.1 q.1) k.expr v Null tt rows h.1 q.1)
        (λ n. let p = none_of_both k.broken a.broken n in (sized look words known c.value h.0 p.0, last_sized a.items (missing_last k a) (arms_sized rows h.1 p.1) (missing_sized k a))) e
    done_sized (switch_else c rows d) h e =
        let k = read look c.value in let a = arms look kind rows in let z = done look kind d in
        either_sized c.masks (chained k (ways look kind rows) z) _
        (λ n.
        let p = none_of_both (k.broken ++ ways_broken (ways look kind rows)) z.broken n in
        let q = none_of_both k.broken (ways_broken (ways look kind rows)) p.0 in
        let v = sized look words known c.value h.0 q.0 in
        ways_sized (ways_size (size k.expr) (ways look kind rows)) (ways_wide (size k.expr) rows (size_wide wid words k.expr v) h.1 q.1) k.expr v z.stmt (done_sized d h.2 p.1) rows h.1 q.1)
        (λ n.
        let p = none_of_both (k.broken ++ a.broken) z.broken n in
        let q = none_of_both k.broken a.broken p.0 in
        (sized look words known c.value h.0 q.0, last_sized a.items (default_item z.stmt) (arms_sized rows h.1 q.1) (done_sized d h.2 p.1))) e
    done_sized (block rows) h e = all_done_sized rows h e

    pub all_done_sized : (ss : StmtTrees) → AreRowsFormed ss → (done_all look kind ss).broken ≡ [] → AreStmtsSized wid is_reg (done_all look kind ss).stmts
    all_done_sized no_rows h e = tt
    all_done_sized (and_rows s rest) h e = let p = none_of_both (done look kind s).broken (done_all look kind rest).broken e in (done_sized s h.0 p.0, all_done_sized rest h.1 p.1)

    pub arms_sized : (rows : ArmTrees) → AreArmsFormed rows → (arms look kind rows).broken ≡ [] → AreItemsSized wid is_reg (arms look kind rows).items
    arms_sized no_arms h e = tt
    arms_sized (and_arms labels s rest) h e =
        let ls = read_list look kind labels in let a = done look kind s in let b = arms look kind rest in
        let p = none_of_both (all_broken ls ++ a.broken) b.broken e in
        let q = none_of_both (all_broken ls) a.broken p.0 in
        (labels_sized labels h.0 q.0, done_sized s h.1 q.1, arms_sized rest h.2 p.1)

    pub ways_sized : (w : ℕ) → IsWide w → (s : Expr) → IsSized wid s → (last : Stmt) → IsDone last → (rows : ArmTrees) → AreArmsFormed rows → ways_broken (ways look kind rows) ≡ []
        → IsDone (chain w s (ways look kind rows) last)
    ways_sized w i s j last k no_arms h e = k
    ways_sized w i s j last k (and_arms labels b rest) h e =
        let ms = map (mask_of look kind) labels in let a = done look kind b in
        let p = none_of_both (masks_broken ms ++ a.broken) (ways_broken (ways look kind rest)) e in
        let q = none_of_both (masks_broken ms) a.broken p.0 in
        (way_sized w i s j ms, done_sized b h.1 q.1, ways_sized w i s j last k rest h.2 p.1)

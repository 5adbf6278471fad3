-- Statements of an instance are read as those of its module, and moved.
use Rattle.std.proofs.Common.{◌≡◌, ℕ, zero, suc, ◌+◌, ◌^◌, Bool, true, false, cond, ◌&&◌, List, [], ◌∷◌, ◌++◌, map, refl, ap, ap₂, ◌∙◌, max}
use Rattle.cell_graph.specs.Tree.{number}
use Rattle.verilog_reading.specs.StmtTree.{StmtTree, null, set, when, either, switch, switch_else, block, StmtTrees, no_rows, and_rows, LabelTree, by_value, by_mask, ArmTrees, no_arms, and_arms}
use Rattle.verilog_reading.specs.ExprTree.{TargetTree}
use Rattle.flat_meaning.specs.Flat.{Expr, Number, Binary, is_equal, logical_or, size, case_size, Whole, Stmt, Null, Set, If, Case, Block, Items, no_items, default_item, item, stmt}
use Rattle.flat_meaning.specs.Full.{is_full}
use Rattle.flat_unfolding.specs.Outcome.{Text, Broken, breaks_if}
use Rattle.flat_unfolding.specs.Names.{Memory, Entry, Look}
use Rattle.flat_unfolding.specs.Expressions.{Term, is_sound, all_broken, all_sound, all_constant, joined, as_constant, read}
use Rattle.flat_unfolding.specs.Targets.{Goal, fixed, a_word, goal, first_name}
use Rattle.flat_unfolding.specs.Memories.{writes_from}
use Rattle.flat_unfolding.specs.Statements.{Kind, is_stray, Done, Rows, Arms, word_set, goal_broken, is_word, with_last, missing_last, Mask, Way, masks_broken, ways_broken, masks_size, ways_size, without_open, mask_test, also_tests, way_test, chain, chained, nothing_done, set_done, label_term, read_list, mask_of, done, done_all, arms, ways}
use Rattle.instance_laws.specs.Moved.{moved_expr, moved_exprs, moved_stmt, moved_items, moved_stmts}
use Rattle.instance_laws.proofs.Looks.{count, far}
use Rattle.instance_laws.proofs.Terms.{ap₃, moved_term, size_moved, value_moved, joined_moved, all_constant_moved, all_sound_moved, all_broken_moved, read_moved, first_moved}
use Rattle.instance_laws.proofs.Bits.{full_moved, case_size_moved}
use Rattle.instance_laws.proofs.Aims.{moved_goal, goal_moved}

module _ (k : ℕ) where
  abbrev pub moved_done : Done → Done
  moved_done d = record { stmt = moved_stmt k d.stmt; broken = d.broken }

  abbrev moved_rows : Rows → Rows
  moved_rows r = record { stmts = moved_stmts k r.stmts; broken = r.broken }

  abbrev moved_arms : Arms → Arms
  moved_arms a = record { items = moved_items k a.items; is_sound = a.is_sound; is_constant = a.is_constant; broken = a.broken }

  abbrev moved_mask : Mask → Mask
  moved_mask m = record { term = moved_term k m.term; opened = m.opened }

  abbrev moved_way : Way → Way
  moved_way w = record { masks = map moved_mask w.masks; body = moved_done w.body }

  -- ---- items of a `case`

  last_moved : (is last : Items) → with_last (moved_items k is) (moved_items k last) ≡ moved_items k (with_last is last)
  last_moved no_items last = refl
  last_moved (default_item s) last = refl
  last_moved (item ls s rest) last = ap (item (moved_exprs k ls) (moved_stmt k s)) (last_moved rest last)

  missing_moved : (e : Term) (a : Arms) → missing_last (moved_term k e) (moved_arms a) ≡ moved_items k (missing_last e a)
  missing_moved e a =
      ap (λ b. cond (is_sound e && a.is_sound && a.is_constant && b) no_items (default_item Null))
      (ap (λ w. is_full w (moved_items k a.items)) (case_size_moved k e.expr a.items) ∙ full_moved k (case_size e.expr a.items) a.items)
      ∙ go (is_sound e && a.is_sound && a.is_constant && is_full (case_size e.expr a.items) a.items)
    where
      go : (b : Bool) → cond b no_items (default_item Null) ≡ moved_items k (cond b no_items (default_item Null))
      go true = refl
      go false = refl

  -- ---- items of a `casez`

  masks_broken_moved : (ms : List Mask) → masks_broken (map moved_mask ms) ≡ masks_broken ms
  masks_broken_moved [] = refl
  masks_broken_moved (m ∷ ms) = ap (λ bs. m.term.broken ++ bs) (masks_broken_moved ms)

  ways_broken_moved : (ws : List Way) → ways_broken (map moved_way ws) ≡ ways_broken ws
  ways_broken_moved [] = refl
  ways_broken_moved (w ∷ ws) = ap₂ (λ a b. a ++ w.body.broken ++ b) (masks_broken_moved w.masks) (ways_broken_moved ws)

  masks_size_moved : (ms : List Mask) (n : ℕ) → masks_size n (map moved_mask ms) ≡ masks_size n ms
  masks_size_moved [] n = refl
  masks_size_moved (m ∷ ms) n = ap (λ w. masks_size (max n w) (map moved_mask ms)) (size_moved k m.term.expr) ∙ masks_size_moved ms (max n (size m.term.expr))

  ways_size_moved : (ws : List Way) (n : ℕ) → ways_size n (map moved_way ws) ≡ ways_size n ws
  ways_size_moved [] n = refl
  ways_size_moved (w ∷ ws) n = ap (λ m. ways_size m (map moved_way ws)) (masks_size_moved w.masks n) ∙ ways_size_moved ws (masks_size n w.masks)

  open_moved : (w : ℕ) (s : Expr) (opened : ℕ) → without_open w (moved_expr k s) opened ≡ moved_expr k (without_open w s opened)
  open_moved w s zero = refl
  open_moved w s (suc n) = refl

  test_moved : (w : ℕ) (s : Expr) (m : Mask) → mask_test w (moved_expr k s) (moved_mask m) ≡ moved_expr k (mask_test w s m)
  test_moved w s m = ap₂ (λ a f. Binary is_equal a (Number w (number f w))) (open_moved w s m.opened) (value_moved k m.term.expr w)

  tests_moved : (w : ℕ) (s before : Expr) (ms : List Mask) → also_tests w (moved_expr k s) (moved_expr k before) (map moved_mask ms) ≡ moved_expr k (also_tests w s before ms)
  tests_moved w s before [] = refl
  tests_moved w s before (m ∷ ms) =
      ap (λ e. also_tests w (moved_expr k s) (Binary logical_or (moved_expr k before) e) (map moved_mask ms)) (test_moved w s m)
      ∙ tests_moved w s (Binary logical_or before (mask_test w s m)) ms

  way_test_moved : (w : ℕ) (s : Expr) (ms : List Mask) → way_test w (moved_expr k s) (map moved_mask ms) ≡ moved_expr k (way_test w s ms)
  way_test_moved w s [] = refl
  way_test_moved w s (m ∷ ms) = ap (λ e. also_tests w (moved_expr k s) e (map moved_mask ms)) (test_moved w s m) ∙ tests_moved w s (mask_test w s m) ms

  chain_moved : (w : ℕ) (s : Expr) (ws : List Way) (last : Stmt) → chain w (moved_expr k s) (map moved_way ws) (moved_stmt k last) ≡ moved_stmt k (chain w s ws last)
  chain_moved w s [] last = refl
  chain_moved w s (a ∷ ws) last = ap₂ (λ c z. If c (moved_stmt k a.body.stmt) z) (way_test_moved w s a.masks) (chain_moved w s ws last)

  chained_moved : (t : Term) (ws : List Way) (d : Done) → chained (moved_term k t) (map moved_way ws) (moved_done d) ≡ moved_done (chained t ws d)
  chained_moved t ws d =
      ap₂ (λ w bs. finished (chain w (moved_expr k t.expr) (map moved_way ws) (moved_stmt k d.stmt)) bs)
      (ap (λ n. ways_size n (map moved_way ws)) (size_moved k t.expr) ∙ ways_size_moved ws (size t.expr)) (ways_broken_moved ws)
      ∙ ap (λ s. finished s (ways_broken ws)) (chain_moved (ways_size (size t.expr) ws) t.expr ws d.stmt)
    where
      finished : Stmt → List Broken → Done
      finished s bs = record { stmt = s; broken = t.broken ++ bs ++ d.broken }

module _ (prefix : Text) (base : List Entry) (look : Look) (kind : Kind) where
  abbrev n : ℕ
  n = count prefix base

  abbrev there : Look
  there = far prefix base look

  -- ---- assignments

  writes_moved : (m : Memory) (i v : Expr) (j more : ℕ) → writes_from (record { first = n + m.first; words = m.words }) (moved_expr n i) (moved_expr n v) j more
      ≡ moved_stmts n (writes_from m i v j more)
  writes_moved m i v j zero = refl
  writes_moved m i v j (suc more) =
      ap₃ (λ w s rest. stmt (If (Binary is_equal (moved_expr n i) (Number w j)) (Set false (Whole s) (moved_expr n v)) Null) rest)
      (size_moved n i) (first_moved prefix base look m.first j) (writes_moved m i v (suc j) more)

  word_set_moved : (blocking : Bool) (g : Goal) (v : Expr) → word_set blocking (moved_goal n g) (moved_expr n v) ≡ moved_stmt n (word_set blocking g v)
  word_set_moved blocking (fixed a) v = refl
  word_set_moved true (a_word m i bs) v = refl
  word_set_moved false (a_word m i bs) v =
      ap (λ w. Block (writes_from (record { first = n + m.first; words = m.words }) (moved_expr n i) (moved_expr n v) 0 (2 ^ w))) (size_moved n i)
      ∙ ap Block (writes_moved m i v 0 (2 ^ size i))

  set_moved : (blocking : Bool) (t : TargetTree) (g : Goal) (v : Term)
      → set_done there kind blocking t (moved_goal n g) (moved_term n v) ≡ moved_done n (set_done look kind blocking t g v)
  set_moved blocking t g v = ap₃ (λ s bs b. with_rules s bs b) (word_set_moved blocking g v.expr) (broken_same g) (word_same g)
    where
      with_rules : Stmt → List Broken → Bool → Done
      with_rules s bs b = record { stmt = s; broken = bs ++ v.broken ++ breaks_if (is_stray kind blocking) 313 (first_name t) ++ breaks_if (blocking && b) 319 (first_name t) }

      broken_same : (g : Goal) → goal_broken (moved_goal n g) ≡ goal_broken g
      broken_same (fixed a) = refl
      broken_same (a_word m i bs) = refl

      word_same : (g : Goal) → is_word (moved_goal n g) ≡ is_word g
      word_same (fixed a) = refl
      word_same (a_word m i bs) = refl

  -- ---- labels

  label_moved : (l : LabelTree) → label_term there kind l ≡ moved_term n (label_term look kind l)
  label_moved (by_value e) = read_moved prefix base look e
  label_moved (by_mask v opened w) = refl

  labels_moved : (ls : List LabelTree) → read_list there kind ls ≡ map (moved_term n) (read_list look kind ls)
  labels_moved [] = refl
  labels_moved (l ∷ ls) = ap₂ (λ t ts. t ∷ ts) (label_moved l) (labels_moved ls)

  mask_moved : (l : LabelTree) → mask_of there kind l ≡ moved_mask n (mask_of look kind l)
  mask_moved (by_value e) = ap (λ t. opened_none (as_constant t)) (read_moved prefix base look e)
    where
      opened_none : Term → Mask
      opened_none t = record { term = t; opened = 0 }
  mask_moved (by_mask v opened w) = refl

  masks_moved : (ls : List LabelTree) → map (mask_of there kind) ls ≡ map (moved_mask n) (map (mask_of look kind) ls)
  masks_moved [] = refl
  masks_moved (l ∷ ls) = ap₂ (λ t ts. t ∷ ts) (mask_moved l) (masks_moved ls)

  -- ---- statements

  abbrev cased : Term → Arms → Items → List Broken → Done
  cased t a last bs = record { stmt = Case t.expr (with_last a.items last); broken = t.broken ++ a.broken ++ bs }

  abbrev cased_alone : Term → Arms → Done
  cased_alone t a = record { stmt = Case t.expr (with_last a.items (missing_last t a)); broken = t.broken ++ a.broken }

  cased_moved : (t : Term) (a : Arms) → cased_alone (moved_term n t) (moved_arms n a) ≡ moved_done n (cased_alone t a)
  cased_moved t a =
      ap (λ is. closed (Case (moved_expr n t.expr) is)) (ap (with_last (moved_items n a.items)) (missing_moved n t a) ∙ last_moved n a.items (missing_last t a))
    where
      closed : Stmt → Done
      closed s = record { stmt = s; broken = t.broken ++ a.broken }

  cased_else_moved : (t : Term) (a : Arms) (d : Done) → cased (moved_term n t) (moved_arms n a) (default_item (moved_stmt n d.stmt)) d.broken
      ≡ moved_done n (cased t a (default_item d.stmt) d.broken)
  cased_else_moved t a d = ap (λ is. closed (Case (moved_expr n t.expr) is)) (last_moved n a.items (default_item d.stmt))
    where
      closed : Stmt → Done
      closed s = record { stmt = s; broken = t.broken ++ a.broken ++ d.broken }

  abbrev armed : List Term → Done → Arms → Arms
  armed ls a b =
      record {
        items = item (joined ls) a.stmt b.items;
        is_sound = all_sound ls && b.is_sound;
        is_constant = all_constant ls && b.is_constant;
        broken = all_broken ls
            ++ a.broken ++ b.broken;
      }

  armed_moved : (ls : List Term) (a : Done) (b : Arms) → armed (map (moved_term n) ls) (moved_done n a) (moved_arms n b) ≡ moved_arms n (armed ls a b)
  armed_moved ls a b = rw (joined_moved n ls, all_sound_moved n ls, all_constant_moved n ls, all_broken_moved n ls)

  -- of a `casez` and of a `case`
  either_moved : (b : Bool) (x y u v : Done) → x ≡ moved_done n u → y ≡ moved_done n v → cond b x y ≡ moved_done n (cond b u v)
  either_moved true x y u v h j = h
  either_moved false x y u v h j = j

  abbrev when_done : Term → Done → Done
  when_done k a = record { stmt = If k.expr a.stmt Null; broken = k.broken ++ a.broken }

  abbrev either_done : Term → Done → Done → Done
  either_done k a b = record { stmt = If k.expr a.stmt b.stmt; broken = k.broken ++ a.broken ++ b.broken }

  abbrev block_done : Rows → Done
  block_done all = record { stmt = Block all.stmts; broken = all.broken }

  abbrev one_row : Done → Rows → Rows
  one_row a b = record { stmts = stmt a.stmt b.stmts; broken = a.broken ++ b.broken }

  abbrev one_way : List Mask → Done → Way
  one_way ms b = record { masks = ms; body = b }

  mutual
    pub done_moved : (s : StmtTree) → done there kind s ≡ moved_done n (done look kind s)
    done_moved null = refl
    done_moved (set blocking delay t v) =
        ap₂ (set_done there kind blocking t) (goal_moved prefix base look t) (read_moved prefix base look v) ∙ set_moved blocking t (goal look t) (read look v)
    done_moved (when c s) = ap₂ when_done (read_moved prefix base look c) (done_moved s)
    done_moved (either c s z) = ap₃ either_done (read_moved prefix base look c) (done_moved s) (done_moved z)
    done_moved (switch c rows) =
        let r = read_moved prefix base look c.value in
        either_moved c.masks (chained (read there c.value) (ways there kind rows) nothing_done) (cased_alone (read there c.value) (arms there kind rows))
        (chained (read look c.value) (ways look kind rows) nothing_done) (cased_alone (read look c.value) (arms look kind rows))
        (ap₂ (λ t ws. chained t ws nothing_done) r (ways_moved rows) ∙ chained_moved n (read look c.value) (ways look kind rows) nothing_done)
        (ap₂ cased_alone r (arms_moved rows) ∙ cased_moved (read look c.value) (arms look kind rows))
    done_moved (switch_else c rows d) =
        let r = read_moved prefix base look c.value in
        either_moved c.masks (chained (read there c.value) (ways there kind rows) (done there kind d))
        (cased (read there c.value) (arms there kind rows) (default_item (done there kind d).stmt) (done there kind d).broken)
        (chained (read look c.value) (ways look kind rows) (done look kind d))
        (cased (read look c.value) (arms look kind rows) (default_item (done look kind d).stmt) (done look kind d).broken)
        (ap₃ chained r (ways_moved rows) (done_moved d) ∙ chained_moved n (read look c.value) (ways look kind rows) (done look kind d))
        (ap₃ (λ t a (b : Done). cased t a (default_item b.stmt) b.broken) r (arms_moved rows) (done_moved d)
        ∙ cased_else_moved (read look c.value) (arms look kind rows) (done look kind d))
    done_moved (block rows) = ap block_done (done_all_moved rows)

    done_all_moved : (ss : StmtTrees) → done_all there kind ss ≡ moved_rows n (done_all look kind ss)
    done_all_moved no_rows = refl
    done_all_moved (and_rows s rest) = ap₂ one_row (done_moved s) (done_all_moved rest)

    arms_moved : (rows : ArmTrees) → arms there kind rows ≡ moved_arms n (arms look kind rows)
    arms_moved no_arms = refl
    arms_moved (and_arms labels s rest) =
        ap₃ armed (labels_moved labels) (done_moved s) (arms_moved rest) ∙ armed_moved (read_list look kind labels) (done look kind s) (arms look kind rest)

    ways_moved : (rows : ArmTrees) → ways there kind rows ≡ map (moved_way n) (ways look kind rows)
    ways_moved no_arms = refl
    ways_moved (and_arms labels s rest) = ap₃ (λ ms d ws. one_way ms d ∷ ws) (masks_moved labels) (done_moved s) (ways_moved rest)

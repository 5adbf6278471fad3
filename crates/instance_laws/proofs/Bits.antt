-- The bits that targets and statements of an instance assign and read are those of its module.
use Rattle.std.proofs.Common.{◌≡◌, ℕ, zero, suc, ◌+◌, ◌^◌, ◌<◌, ◌==◌, Bool, true, false, cond, not, ◌&&◌, ◌||◌, List, [], ◌∷◌, length, map, Option, Some, None, refl, sym, ap, ap₂, ◌∙◌, arith, rules, max, eqb-true, length-append}
use Rattle.std.proofs.lemmas.Bool.{eqb-false}
use mathlib.Core.Path.{fun_ext}
use Rattle.cell_graph.specs.Tree.{all_below, any_below, number as number_of_bits}
use Rattle.flat_meaning.specs.Flat.{Expr, Number, Read, At, Unary, Binary, Choose, Gate, Join, Repeat, Exprs, no_exprs, expr, largest, largest_label, Target, Whole, Part, Pick, Group, Targets, no_targets, target, Stmt, Null, Set, If, Case, Block, Items, no_items, default_item, item, Stmts, no_stmts, stmt, case_size}
use Rattle.flat_meaning.specs.Full.{is_const, are_const, has_label, labels_const, some_label, is_full}
use Rattle.flat_meaning.specs.Assigned.{Done, is_within, covers, cover, surely, surely_case, surely_all, reaches, reach, may_assign, may_assign_in, any_may_assign}
use Rattle.flat_meaning.specs.Deps.{none}
use Rattle.flat_meaning.specs.Law.{expr_reads}
use Rattle.flat_form.specs.Uses.{exprs_read, target_reads, targets_read}
use Rattle.flat_unfolding.specs.Outcome.{Text}
use Rattle.flat_unfolding.specs.Names.{Entry, width_at}
use Rattle.flat_unfolding.specs.Reads.{first_from, early, early_in, early_all, is_latch, latch_of, latch_rule}
use Rattle.flat_unfolding.proofs.OneDriver.{none_from}
use Rattle.instance_laws.specs.Moved.{moved_expr, moved_exprs, moved_target, moved_targets, moved_stmt, moved_items, moved_stmts, moved_entry}
use Rattle.instance_laws.proofs.Looks.{count, behind, width_moved}
use Rattle.instance_laws.proofs.Terms.{size_moved, value_moved}

-- ---- numbers of signals

module _ (k : ℕ) where
  pub same_signal : (x s : ℕ) → (k + x == k + s) ≡ (x == s)
  same_signal x s = go (k + x == k + s) refl (x == s) refl
    where
      go : (a : Bool) → (k + x == k + s) ≡ a → (b : Bool) → (x == s) ≡ b → a ≡ b
      go true e true f = refl
      go false e false f = refl
      go true e false f = let p = eqb-true (k + x) (k + s) e in absurd (eqb-false x s f (let q : x ≡ s = omega (arith, p) in q))
      go false e true f = let p = eqb-true x s f in absurd (eqb-false (k + x) (k + s) e (ap (λ y. k + y) p))

  pub other_signal : (x s : ℕ) → x < k → (x == k + s) ≡ false
  other_signal x s l = go (x == k + s) refl
    where
      go : (a : Bool) → (x == k + s) ≡ a → a ≡ false
      go false e = refl
      go true e = let p = eqb-true x (k + s) e in absurd (omega (arith, l, p))

  -- a test that signals before don't pass
  pub any_moved : (f g : ℕ → Bool) → ((x : ℕ) → x < k → f x ≡ false) → ((x : ℕ) → f (k + x) ≡ g x) → (n : ℕ) → any_below f (k + n) ≡ any_below g n
  any_moved f g low high zero = ap (any_below f) (let z : k + 0 ≡ k = omega arith in z) ∙ go k (λ x l. low x l)
    where
      go : (m : ℕ) → ((x : ℕ) → x < m → f x ≡ false) → any_below f m ≡ false
      go zero h = refl
      go (suc m) h = ap₂ (λ p q. p || q) (go m (λ x l. h x (let j : x < suc m = omega (arith, l) in j))) (h m (let j : m < suc m = omega arith in j))
  any_moved f g low high (suc n) = ap (any_below f) (let z : k + suc n ≡ suc (k + n) = omega arith in z) ∙ ap₂ (λ p q. p || q) (any_moved f g low high n) (high n)

  -- ---- constants

  mutual
    const_moved : (e : Expr) → is_const (moved_expr k e) ≡ is_const e
    const_moved (Number w n) = refl
    const_moved (Read s at w) = refl
    const_moved (At s e) = refl
    const_moved (Unary op a) = const_moved a
    const_moved (Binary op a b) = ap₂ (λ p q. p && q) (const_moved a) (const_moved b)
    const_moved (Choose c x y) = ap₂ (λ p q. p && q) (const_moved c) (ap₂ (λ p q. p && q) (const_moved x) (const_moved y))
    const_moved (Gate op es) = all_const_moved es
    const_moved (Join es) = all_const_moved es
    const_moved (Repeat n es) = all_const_moved es

    all_const_moved : (es : Exprs) → are_const (moved_exprs k es) ≡ are_const es
    all_const_moved no_exprs = refl
    all_const_moved (expr e es) = ap₂ (λ p q. p && q) (const_moved e) (all_const_moved es)

  labels_const_moved : (is : Items) → labels_const (moved_items k is) ≡ labels_const is
  labels_const_moved no_items = refl
  labels_const_moved (default_item s) = refl
  labels_const_moved (item ls s rest) = ap₂ (λ p q. p && q) (all_const_moved ls) (labels_const_moved rest)

  has_label_moved : (w x : ℕ) (es : Exprs) → has_label w x (moved_exprs k es) ≡ has_label w x es
  has_label_moved w x no_exprs = refl
  has_label_moved w x (expr e es) = ap₂ (λ p q. (x == number_of_bits p w) || q) (value_moved k e w) (has_label_moved w x es)

  some_label_moved : (w x : ℕ) (is : Items) → some_label w x (moved_items k is) ≡ some_label w x is
  some_label_moved w x no_items = refl
  some_label_moved w x (default_item s) = refl
  some_label_moved w x (item ls s rest) = ap₂ (λ p q. p || q) (has_label_moved w x ls) (some_label_moved w x rest)

  pub full_moved : (w : ℕ) (is : Items) → is_full w (moved_items k is) ≡ is_full w is
  full_moved w is = ap₂ (λ p f. p && all_below f (2 ^ w)) (labels_const_moved is) (fun_ext (λ x. some_label_moved w x is))

  largest_moved : (es : Exprs) → largest (moved_exprs k es) ≡ largest es
  largest_moved no_exprs = refl
  largest_moved (expr e es) = ap₂ max (size_moved k e) (largest_moved es)

  largest_label_moved : (is : Items) → largest_label (moved_items k is) ≡ largest_label is
  largest_label_moved no_items = refl
  largest_label_moved (default_item s) = refl
  largest_label_moved (item ls s rest) = ap₂ max (largest_moved ls) (largest_label_moved rest)

  pub case_size_moved : (e : Expr) (is : Items) → case_size (moved_expr k e) (moved_items k is) ≡ case_size e is
  case_size_moved e is = ap₂ max (size_moved k e) (largest_label_moved is)

  -- ---- widths that agree

  module _ (wid own : ℕ → ℕ) (same : (s : ℕ) → wid (k + s) ≡ own s) where
    abbrev Same : Done → Done → Type 0
    Same d e = (x i : ℕ) → d (k + x) i ≡ e x i

    -- nothing is told of signals before
    abbrev Low : Done → Type 0
    Low d = (x i : ℕ) → x < k → d x i ≡ false

    part_same : (x s at w i : ℕ) → ((k + x == k + s) && is_within at w i) ≡ ((x == s) && is_within at w i)
    part_same x s at w i = ap (λ b. b && is_within at w i) (same_signal x s)

    whole_same : (x s i : ℕ) → ((k + x == k + s) && is_within 0 (wid (k + s)) i) ≡ ((x == s) && is_within 0 (own s) i)
    whole_same x s i = ap₂ (λ b w. b && is_within 0 w i) (same_signal x s) (same s)

    part_low : (x s at w i : ℕ) → x < k → ((x == k + s) && is_within at w i) ≡ false
    part_low x s at w i l = ap (λ b. b && is_within at w i) (other_signal x s l)

    mutual
      covers_moved : (t : Target) → Same (covers wid (moved_target k t)) (covers own t)
      covers_moved (Whole s) x i = whole_same x s i
      covers_moved (Part s at w) x i = part_same x s at w i
      covers_moved (Pick s e) x i = refl
      covers_moved (Group ts) x i = cover_moved ts x i

      cover_moved : (ts : Targets) → Same (cover wid (moved_targets k ts)) (cover own ts)
      cover_moved no_targets x i = refl
      cover_moved (target t ts) x i = ap₂ (λ a b. a || b) (covers_moved t x i) (cover_moved ts x i)

    mutual
      pub reaches_moved : (t : Target) → Same (reaches wid (moved_target k t)) (reaches own t)
      reaches_moved (Whole s) x i = whole_same x s i
      reaches_moved (Part s at w) x i = part_same x s at w i
      reaches_moved (Pick s e) x i = whole_same x s i
      reaches_moved (Group ts) x i = reach_moved ts x i

      reach_moved : (ts : Targets) → Same (reach wid (moved_targets k ts)) (reach own ts)
      reach_moved no_targets x i = refl
      reach_moved (target t ts) x i = ap₂ (λ a b. a || b) (reaches_moved t x i) (reach_moved ts x i)

    mutual
      pub reaches_low : (t : Target) → Low (reaches wid (moved_target k t))
      reaches_low (Whole s) x i l = part_low x s 0 (wid (k + s)) i l
      reaches_low (Part s at w) x i l = part_low x s at w i l
      reaches_low (Pick s e) x i l = part_low x s 0 (wid (k + s)) i l
      reaches_low (Group ts) x i l = reach_low ts x i l

      reach_low : (ts : Targets) → Low (reach wid (moved_targets k ts))
      reach_low no_targets x i l = refl
      reach_low (target t ts) x i l = ap₂ (λ a b. a || b) (reaches_low t x i l) (reach_low ts x i l)

    mutual
      reads_moved : (e : Expr) → Same (expr_reads wid (moved_expr k e)) (expr_reads own e)
      reads_moved (Number w n) x i = refl
      reads_moved (Read s at w) x i = part_same x s at w i
      reads_moved (At s e) x i = ap₂ (λ a b. a || b) (whole_same x s i) (reads_moved e x i)
      reads_moved (Unary op a) x i = reads_moved a x i
      reads_moved (Binary op a b) x i = ap₂ (λ a b. a || b) (reads_moved a x i) (reads_moved b x i)
      reads_moved (Choose c a b) x i = ap₂ (λ a b. a || b) (reads_moved c x i) (ap₂ (λ a b. a || b) (reads_moved a x i) (reads_moved b x i))
      reads_moved (Gate op es) x i = all_reads_moved es x i
      reads_moved (Join es) x i = all_reads_moved es x i
      reads_moved (Repeat n es) x i = all_reads_moved es x i

      all_reads_moved : (es : Exprs) → Same (exprs_read wid (moved_exprs k es)) (exprs_read own es)
      all_reads_moved no_exprs x i = refl
      all_reads_moved (expr e es) x i = ap₂ (λ a b. a || b) (reads_moved e x i) (all_reads_moved es x i)

    mutual
      reads_low : (e : Expr) → Low (expr_reads wid (moved_expr k e))
      reads_low (Number w n) x i l = refl
      reads_low (Read s at w) x i l = part_low x s at w i l
      reads_low (At s e) x i l = ap₂ (λ a b. a || b) (part_low x s 0 (wid (k + s)) i l) (reads_low e x i l)
      reads_low (Unary op a) x i l = reads_low a x i l
      reads_low (Binary op a b) x i l = ap₂ (λ a b. a || b) (reads_low a x i l) (reads_low b x i l)
      reads_low (Choose c a b) x i l = ap₂ (λ a b. a || b) (reads_low c x i l) (ap₂ (λ a b. a || b) (reads_low a x i l) (reads_low b x i l))
      reads_low (Gate op es) x i l = all_reads_low es x i l
      reads_low (Join es) x i l = all_reads_low es x i l
      reads_low (Repeat n es) x i l = all_reads_low es x i l

      all_reads_low : (es : Exprs) → Low (exprs_read wid (moved_exprs k es))
      all_reads_low no_exprs x i l = refl
      all_reads_low (expr e es) x i l = ap₂ (λ a b. a || b) (reads_low e x i l) (all_reads_low es x i l)

    mutual
      pub target_reads_moved : (t : Target) → Same (target_reads wid (moved_target k t)) (target_reads own t)
      target_reads_moved (Whole s) x i = refl
      target_reads_moved (Part s at w) x i = refl
      target_reads_moved (Pick s e) x i = reads_moved e x i
      target_reads_moved (Group ts) x i = targets_read_moved ts x i

      targets_read_moved : (ts : Targets) → Same (targets_read wid (moved_targets k ts)) (targets_read own ts)
      targets_read_moved no_targets x i = refl
      targets_read_moved (target t ts) x i = ap₂ (λ a b. a || b) (target_reads_moved t x i) (targets_read_moved ts x i)

    mutual
      pub target_reads_low : (t : Target) → Low (target_reads wid (moved_target k t))
      target_reads_low (Whole s) x i l = refl
      target_reads_low (Part s at w) x i l = refl
      target_reads_low (Pick s e) x i l = reads_low e x i l
      target_reads_low (Group ts) x i l = targets_read_low ts x i l

      targets_read_low : (ts : Targets) → Low (targets_read wid (moved_targets k ts))
      targets_read_low no_targets x i l = refl
      targets_read_low (target t ts) x i l = ap₂ (λ a b. a || b) (target_reads_low t x i l) (targets_read_low ts x i l)

    -- ---- statements

    mutual
      may_moved : (s : Stmt) → Same (may_assign wid (moved_stmt k s)) (may_assign own s)
      may_moved Null x i = refl
      may_moved (Set b t v) x i = reaches_moved t x i
      may_moved (If c a b) x i = ap₂ (λ p q. p || q) (may_moved a x i) (may_moved b x i)
      may_moved (Case v is) x i = items_may_moved is x i
      may_moved (Block ss) x i = all_may_moved ss x i

      items_may_moved : (is : Items) → Same (may_assign_in wid (moved_items k is)) (may_assign_in own is)
      items_may_moved no_items x i = refl
      items_may_moved (default_item s) x i = may_moved s x i
      items_may_moved (item ls s rest) x i = ap₂ (λ p q. p || q) (may_moved s x i) (items_may_moved rest x i)

      all_may_moved : (ss : Stmts) → Same (any_may_assign wid (moved_stmts k ss)) (any_may_assign own ss)
      all_may_moved no_stmts x i = refl
      all_may_moved (stmt s ss) x i = ap₂ (λ p q. p || q) (may_moved s x i) (all_may_moved ss x i)

    chosen_same : (b : Bool) (d e f g : Done) → Same d e → Same f g → Same (cond b d f) (cond b e g)
    chosen_same true d e f g h j = h
    chosen_same false d e f g h j = j

    mutual
      surely_moved : (s : Stmt) (d e : Done) → Same d e → Same (surely wid (moved_stmt k s) d) (surely own s e)
      surely_moved Null d e h x i = h x i
      surely_moved (Set b t v) d e h x i = ap₂ (λ p q. p || q) (covers_moved t x i) (h x i)
      surely_moved (If c a b) d e h x i = ap₂ (λ p q. p && q) (surely_moved a d e h x i) (surely_moved b d e h x i)
      surely_moved (Case v is) d e h x i =
          ap (λ full. surely_case wid full d (moved_items k is) d (k + x) i) (ap (λ w. is_full w (moved_items k is)) (case_size_moved v is) ∙ full_moved (case_size v is) is)
          ∙ case_moved (is_full (case_size v is) is) d e h is d e h x i
      surely_moved (Block ss) d e h x i = all_moved ss d e h x i

      case_moved : (full : Bool) (f g : Done) → Same f g → (is : Items) (d e : Done) → Same d e → Same (surely_case wid full f (moved_items k is) d) (surely_case own full g is e)
      case_moved full f g j no_items d e h x i = j x i
      case_moved full f g j (default_item s) d e h x i = surely_moved s d e h x i
      case_moved full f g j (item ls s rest) d e h x i =
          ap₂ (λ p q. p && q) (surely_moved s d e h x i)
          (case_moved full (cond full (surely wid (moved_stmt k s) d) f) (cond full (surely own s e) g)
          (chosen_same full (surely wid (moved_stmt k s) d) (surely own s e) f g (surely_moved s d e h) j) rest d e h x i)

      all_moved : (ss : Stmts) (d e : Done) → Same d e → Same (surely_all wid (moved_stmts k ss) d) (surely_all own ss e)
      all_moved no_stmts d e h x i = h x i
      all_moved (stmt s ss) d e h x i = all_moved ss (surely wid (moved_stmt k s) d) (surely own s e) (surely_moved s d e h) x i

    mutual
      early_moved : (s : Stmt) (d e : Done) → Same d e → Same (early wid (moved_stmt k s) d) (early own s e)
      early_moved Null d e h x i = refl
      early_moved (Set b t v) d e h x i = ap₂ (λ p q. p && not q) (ap₂ (λ p q. p || q) (reads_moved v x i) (target_reads_moved t x i)) (h x i)
      early_moved (If c a b) d e h x i =
          ap₂ (λ p q. p || q) (ap₂ (λ p q. p && not q) (reads_moved c x i) (h x i)) (ap₂ (λ p q. p || q) (early_moved a d e h x i) (early_moved b d e h x i))
      early_moved (Case v is) d e h x i = ap₂ (λ p q. p || q) (ap₂ (λ p q. p && not q) (reads_moved v x i) (h x i)) (items_early_moved is d e h x i)
      early_moved (Block ss) d e h x i = all_early_moved ss d e h x i

      items_early_moved : (is : Items) (d e : Done) → Same d e → Same (early_in wid (moved_items k is) d) (early_in own is e)
      items_early_moved no_items d e h x i = refl
      items_early_moved (default_item s) d e h x i = early_moved s d e h x i
      items_early_moved (item ls s rest) d e h x i =
          ap₂ (λ p q. p || q) (ap₂ (λ p q. p && not q) (all_reads_moved ls x i) (h x i)) (ap₂ (λ p q. p || q) (early_moved s d e h x i) (items_early_moved rest d e h x i))

      all_early_moved : (ss : Stmts) (d e : Done) → Same d e → Same (early_all wid (moved_stmts k ss) d) (early_all own ss e)
      all_early_moved no_stmts d e h x i = refl
      all_early_moved (stmt s ss) d e h x i =
          ap₂ (λ p q. p || q) (early_moved s d e h x i) (all_early_moved ss (surely wid (moved_stmt k s) d) (surely own s e) (surely_moved s d e h) x i)

    latch_moved : (s : Stmt) → Same (is_latch wid (moved_stmt k s)) (is_latch own s)
    latch_moved s x i =
        ap₂ (λ p q. p && q) (may_moved s x i)
        (ap₂ (λ p q. not p || q) (surely_moved s none none (λ x i. refl) x i) (early_moved s none none (λ x i. refl) x i))

-- ---- the rule of latches

none_then : (p : ℕ → Bool) (from more : ℕ) → ((x : ℕ) → x < more → p (from + x) ≡ false) → first_from p from more ≡ None
none_then p from zero h = refl
none_then p from (suc more) h = go (p from) (sym (ap p (let z : from + 0 ≡ from = omega arith in z)) ∙ h 0 (let l : 0 < suc more = omega arith in l))
    (none_then p (suc from) more (λ x l. ap p (let z : suc from + x ≡ from + suc x = omega arith in z) ∙ h (suc x) (let j : suc x < suc more = omega (arith, l) in j)))
  where
    go : (b : Bool) → b ≡ false → first_from p (suc from) more ≡ None → cond b (Some from) (first_from p (suc from) more) ≡ None
    go true e r = absurd (search (rules, e))
    go false e r = r

module _ (prefix : Text) (base es : List Entry) where
  pub length_moved : length (behind prefix base es) ≡ length base + length es
  length_moved = length-append base (map (moved_entry prefix) es) ∙ ap (λ n. length base + n) (go es)
    where
      go : (es : List Entry) → length (map (moved_entry prefix) es) ≡ length es
      go [] = refl
      go (e ∷ es) = ap suc (go es)

  pub latches_moved : (s : Stmt) → latch_rule (behind prefix base es) (moved_stmt (count prefix base) s) ≡ [] → latch_rule es s ≡ []
  latches_moved s h = ap (latch_of es) (none_then own 0 (length es) (λ x l. ap own (let z : 0 + x ≡ x = omega arith in z) ∙ sym (same x) ∙ none x l))
    where
      k : ℕ
      k = count prefix base

      there : ℕ → ℕ
      there = width_at (behind prefix base es)

      far : ℕ → Bool
      far x = any_below (is_latch there (moved_stmt k s) x) (there x)

      own : ℕ → Bool
      own x = any_below (is_latch (width_at es) s x) (width_at es x)

      same : (x : ℕ) → far (k + x) ≡ own x
      same x = ap₂ any_below (fun_ext (λ i. latch_moved k there (width_at es) (width_moved prefix base es) s x i)) (width_moved prefix base es x)

      told : (o : Option ℕ) → latch_of (behind prefix base es) o ≡ [] → o ≡ None
      told None e = refl
      told (Some x) e = absurd (search (rules, e))

      none : (x : ℕ) → x < length es → far (k + x) ≡ false
      none x l = let z : 0 + (k + x) ≡ k + x = omega arith in
          let n = length_moved in
          ap far (sym z) ∙ none_from far 0 (length (behind prefix base es)) (told (first_from far 0 (length (behind prefix base es))) h) (k + x)
          (let j : k + x < length (behind prefix base es) = omega (arith, n, l) in j)

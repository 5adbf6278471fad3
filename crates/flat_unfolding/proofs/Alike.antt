-- Widths that agree on the signals that a statement names give it the same bits to assign and to read.
use Rattle.std.proofs.Common.{◌≡◌, ℕ, zero, suc, ◌+◌, ◌^◌, ◌<◌, ◌≤◌, Bool, true, false, cond, not, ◌&&◌, ◌||◌, ◌==◌, nat_lt, List, [], length, Option, Some, None, refl, sym, ap, ap₂, subst, ◌∙◌, arith, rules, ltb-true, ltb-false, eqb-true}
use Rattle.std.proofs.lemmas.Bool.{and_parts, or_parts}
use Rattle.std.proofs.lemmas.Nat.{pow_pos}
use Rattle.cell_graph.specs.Tree.{any_below}
use Rattle.flat_meaning.specs.Flat.{Expr, Number, Read, At, Unary, Binary, Choose, Gate, Join, Repeat, Exprs, no_exprs, expr, size, Target, Whole, Part, Pick, Group, Targets, no_targets, target, Stmt, Null, Set, If, Case, Block, Items, no_items, default_item, item, Stmts, no_stmts, stmt, case_size}
use Rattle.flat_meaning.specs.Full.{is_full}
use Rattle.flat_meaning.specs.Assigned.{Done, is_within, covers, cover, surely, surely_case, surely_all, reaches, reach, may_assign, may_assign_in, any_may_assign}
use Rattle.flat_meaning.specs.Deps.{none}
use Rattle.flat_unfolding.specs.Names.{Entry, width_at}
use Rattle.flat_meaning.specs.Law.{expr_reads}
use Rattle.flat_form.specs.Uses.{exprs_read, target_reads, targets_read}
use Rattle.flat_unfolding.specs.Reads.{first_from, early, early_in, early_all, is_latch, latch_of, latch_rule}
use Rattle.flat_unfolding.specs.Sized.{IsSized, AreSized, AreLabelsSized, IsTargetSized, AreTargetsSized, IsStmtSized, AreItemsSized, AreStmtsSized}
use Rattle.flat_unfolding.proofs.OneDriver.{none_from}
use Rattle.flat_unfolding.proofs.Grown.{is_declared_at}

-- ---- bits that may be assigned lie in their signals

within_is : (at w i : ℕ) → is_within at w i ≡ true → i < at + w
within_is at w i h = ltb-true i (at + w) (and_parts (not (nat_lt i at)) (nat_lt i (at + w)) h).1

pub either : {A : Type 0} (a b : Bool) → (a || b) ≡ true → (a ≡ true → A) → (b ≡ true → A) → A
either true b e f g = f refl
either false b e f g = g e

module _ (wid : ℕ → ℕ) (may : ℕ → Bool) where
  pub named_at : (x s at w i : ℕ) → ((x == s) && is_within at w i) ≡ true → at + w ≤ wid s → i < wid x
  named_at x s at w i h l =
      let p = and_parts (x == s) (is_within at w i) h in let k = within_is at w i p.1 in
      subst (λ n. i < wid n) (sym (eqb-true x s p.0)) (let m : i < wid s = omega arith in m)

  mutual
    pub reaches_in : (t : Target) → IsTargetSized wid may t → (x i : ℕ) → reaches wid t x i ≡ true → i < wid x
    reaches_in (Whole s) h x i e = named_at x s 0 (wid s) i e (let l : 0 + wid s ≤ wid s = omega arith in l)
    reaches_in (Part s at w) h x i e = named_at x s at w i e h.2
    reaches_in (Pick s v) h x i e = named_at x s 0 (wid s) i e (let l : 0 + wid s ≤ wid s = omega arith in l)
    reaches_in (Group ts) h x i e = reach_in ts h.2 x i e

    pub reach_in : (ts : Targets) → AreTargetsSized wid may ts → (x i : ℕ) → reach wid ts x i ≡ true → i < wid x
    reach_in no_targets h x i e = absurd (search (rules, e))
    reach_in (target t ts) h x i e = either (reaches wid t x i) (reach wid ts x i) e (reaches_in t h.0 x i) (reach_in ts h.1 x i)

  mutual
    pub assigned_in : (s : Stmt) → IsStmtSized wid may s → (x i : ℕ) → may_assign wid s x i ≡ true → i < wid x
    assigned_in Null h x i e = absurd (search (rules, e))
    assigned_in (Set b t v) h x i e = reaches_in t h.0 x i e
    assigned_in (If c a b) h x i e = either (may_assign wid a x i) (may_assign wid b x i) e (assigned_in a h.1 x i) (assigned_in b h.2 x i)
    assigned_in (Case v is) h x i e = items_assigned_in is h.1 x i e
    assigned_in (Block ss) h x i e = all_assigned_in ss h x i e

    pub items_assigned_in : (is : Items) → AreItemsSized wid may is → (x i : ℕ) → may_assign_in wid is x i ≡ true → i < wid x
    items_assigned_in no_items h x i e = absurd (search (rules, e))
    items_assigned_in (default_item s) h x i e = assigned_in s h x i e
    items_assigned_in (item ls s rest) h x i e = either (may_assign wid s x i) (may_assign_in wid rest x i) e (assigned_in s h.1 x i) (items_assigned_in rest h.2 x i)

    pub all_assigned_in : (ss : Stmts) → AreStmtsSized wid may ss → (x i : ℕ) → any_may_assign wid ss x i ≡ true → i < wid x
    all_assigned_in no_stmts h x i e = absurd (search (rules, e))
    all_assigned_in (stmt s ss) h x i e = either (may_assign wid s x i) (any_may_assign wid ss x i) e (assigned_in s h.0 x i) (all_assigned_in ss h.1 x i)

-- ---- widths that agree

module _ (wid other : ℕ → ℕ) (agree : (s : ℕ) → 1 ≤ wid s → other s ≡ wid s) (may : ℕ → Bool) where
  abbrev Same : Done → Done → Type 0
  Same d e = (x i : ℕ) → e x i ≡ d x i

  whole_same : (s : ℕ) → 1 ≤ wid s → (x i : ℕ) → ((x == s) && is_within 0 (other s) i) ≡ ((x == s) && is_within 0 (wid s) i)
  whole_same s h x i = ap (λ w. (x == s) && is_within 0 w i) (agree s h)

  wide_pick : (s : ℕ) (v : Expr) → 2 ^ size v ≤ wid s → 1 ≤ wid s
  wide_pick s v h = let p = pow_pos (size v) in omega arith

  mutual
    covers_same : (t : Target) → IsTargetSized wid may t → Same (covers wid t) (covers other t)
    covers_same (Whole s) h x i = whole_same s h.1 x i
    covers_same (Part s at w) h x i = refl
    covers_same (Pick s v) h x i = refl
    covers_same (Group ts) h x i = cover_same ts h.2 x i

    cover_same : (ts : Targets) → AreTargetsSized wid may ts → Same (cover wid ts) (cover other ts)
    cover_same no_targets h x i = refl
    cover_same (target t ts) h x i = ap₂ (λ a b. a || b) (covers_same t h.0 x i) (cover_same ts h.1 x i)

  mutual
    reaches_same : (t : Target) → IsTargetSized wid may t → Same (reaches wid t) (reaches other t)
    reaches_same (Whole s) h x i = whole_same s h.1 x i
    reaches_same (Part s at w) h x i = refl
    reaches_same (Pick s v) h x i = whole_same s (wide_pick s v h.1) x i
    reaches_same (Group ts) h x i = reach_same ts h.2 x i

    reach_same : (ts : Targets) → AreTargetsSized wid may ts → Same (reach wid ts) (reach other ts)
    reach_same no_targets h x i = refl
    reach_same (target t ts) h x i = ap₂ (λ a b. a || b) (reaches_same t h.0 x i) (reach_same ts h.1 x i)

  mutual
    may_same : (s : Stmt) → IsStmtSized wid may s → Same (may_assign wid s) (may_assign other s)
    may_same Null h x i = refl
    may_same (Set b t v) h x i = reaches_same t h.0 x i
    may_same (If c a b) h x i = ap₂ (λ p q. p || q) (may_same a h.1 x i) (may_same b h.2 x i)
    may_same (Case v is) h x i = items_may_same is h.1 x i
    may_same (Block ss) h x i = all_may_same ss h x i

    items_may_same : (is : Items) → AreItemsSized wid may is → Same (may_assign_in wid is) (may_assign_in other is)
    items_may_same no_items h x i = refl
    items_may_same (default_item s) h x i = may_same s h x i
    items_may_same (item ls s rest) h x i = ap₂ (λ p q. p || q) (may_same s h.1 x i) (items_may_same rest h.2 x i)

    all_may_same : (ss : Stmts) → AreStmtsSized wid may ss → Same (any_may_assign wid ss) (any_may_assign other ss)
    all_may_same no_stmts h x i = refl
    all_may_same (stmt s ss) h x i = ap₂ (λ p q. p || q) (may_same s h.0 x i) (all_may_same ss h.1 x i)

  chosen_same : (b : Bool) (d e f g : Done) → Same d e → Same f g → Same (cond b d f) (cond b e g)
  chosen_same true d e f g h k = h
  chosen_same false d e f g h k = k

  mutual
    surely_same : (s : Stmt) → IsStmtSized wid may s → (d e : Done) → Same d e → Same (surely wid s d) (surely other s e)
    surely_same Null h d e k x i = k x i
    surely_same (Set b t v) h d e k x i = ap₂ (λ p q. p || q) (covers_same t h.0 x i) (k x i)
    surely_same (If c a b) h d e k x i = ap₂ (λ p q. p && q) (surely_same a h.1 d e k x i) (surely_same b h.2 d e k x i)
    surely_same (Case v is) h d e k x i = case_same (is_full (case_size v is) is) d e k is h.1 d e k x i
    surely_same (Block ss) h d e k x i = all_same ss h d e k x i

    case_same : (full : Bool) (f g : Done) → Same f g → (is : Items) → AreItemsSized wid may is → (d e : Done) → Same d e → Same (surely_case wid full f is d) (surely_case other full g is e)
    case_same full f g l no_items h d e k x i = l x i
    case_same full f g l (default_item s) h d e k x i = surely_same s h d e k x i
    case_same full f g l (item ls s rest) h d e k x i =
        ap₂ (λ p q. p && q) (surely_same s h.1 d e k x i)
        (case_same full (cond full (surely wid s d) f) (cond full (surely other s e) g) (chosen_same full (surely wid s d) (surely other s e) f g (surely_same s h.1 d e k) l) rest h.2 d e k x i)

    all_same : (ss : Stmts) → AreStmtsSized wid may ss → (d e : Done) → Same d e → Same (surely_all wid ss d) (surely_all other ss e)
    all_same no_stmts h d e k x i = k x i
    all_same (stmt s ss) h d e k x i = all_same ss h.1 (surely wid s d) (surely other s e) (surely_same s h.0 d e k) x i

  mutual
    reads_same : (v : Expr) → IsSized wid v → Same (expr_reads wid v) (expr_reads other v)
    reads_same (Number w n) h x i = refl
    reads_same (Read s at w) h x i = refl
    reads_same (At s v) h x i = ap₂ (λ p q. p || q) (whole_same s (wide_pick s v h.0) x i) (reads_same v h.1 x i)
    reads_same (Unary op a) h x i = reads_same a h x i
    reads_same (Binary op a b) h x i = ap₂ (λ p q. p || q) (reads_same a h.1 x i) (reads_same b h.2 x i)
    reads_same (Choose c a b) h x i = ap₂ (λ p q. p || q) (reads_same c h.0 x i) (ap₂ (λ p q. p || q) (reads_same a h.1 x i) (reads_same b h.2 x i))
    reads_same (Gate op es) h x i = all_reads_same es h.2 x i
    reads_same (Join es) h x i = all_reads_same es h.2 x i
    reads_same (Repeat n es) h x i = all_reads_same es h.3 x i

    all_reads_same : (es : Exprs) → AreSized wid es → Same (exprs_read wid es) (exprs_read other es)
    all_reads_same no_exprs h x i = refl
    all_reads_same (expr v es) h x i = ap₂ (λ p q. p || q) (reads_same v h.0 x i) (all_reads_same es h.1 x i)

  labels_same : (es : Exprs) → AreLabelsSized wid es → Same (exprs_read wid es) (exprs_read other es)
  labels_same no_exprs h = absurd h
  labels_same (expr v es) h = all_reads_same (expr v es) h

  mutual
    target_reads_same : (t : Target) → IsTargetSized wid may t → Same (target_reads wid t) (target_reads other t)
    target_reads_same (Whole s) h x i = refl
    target_reads_same (Part s at w) h x i = refl
    target_reads_same (Pick s v) h x i = reads_same v h.2 x i
    target_reads_same (Group ts) h x i = targets_read_same ts h.2 x i

    targets_read_same : (ts : Targets) → AreTargetsSized wid may ts → Same (targets_read wid ts) (targets_read other ts)
    targets_read_same no_targets h x i = refl
    targets_read_same (target t ts) h x i = ap₂ (λ p q. p || q) (target_reads_same t h.0 x i) (targets_read_same ts h.1 x i)

  mutual
    early_same : (s : Stmt) → IsStmtSized wid may s → (d e : Done) → Same d e → Same (early wid s d) (early other s e)
    early_same Null h d e k x i = refl
    early_same (Set b t v) h d e k x i = ap₂ (λ p q. p && not q) (ap₂ (λ p q. p || q) (reads_same v h.1 x i) (target_reads_same t h.0 x i)) (k x i)
    early_same (If c a b) h d e k x i = ap₂ (λ p q. p || q) (ap₂ (λ p q. p && not q) (reads_same c h.0 x i) (k x i)) (ap₂ (λ p q. p || q) (early_same a h.1 d e k x i) (early_same b h.2 d e k x i))
    early_same (Case v is) h d e k x i = ap₂ (λ p q. p || q) (ap₂ (λ p q. p && not q) (reads_same v h.0 x i) (k x i)) (items_early_same is h.1 d e k x i)
    early_same (Block ss) h d e k x i = all_early_same ss h d e k x i

    items_early_same : (is : Items) → AreItemsSized wid may is → (d e : Done) → Same d e → Same (early_in wid is d) (early_in other is e)
    items_early_same no_items h d e k x i = refl
    items_early_same (default_item s) h d e k x i = early_same s h d e k x i
    items_early_same (item ls s rest) h d e k x i =
        ap₂ (λ p q. p || q) (ap₂ (λ p q. p && not q) (labels_same ls h.0 x i) (k x i)) (ap₂ (λ p q. p || q) (early_same s h.1 d e k x i) (items_early_same rest h.2 d e k x i))

    all_early_same : (ss : Stmts) → AreStmtsSized wid may ss → (d e : Done) → Same d e → Same (early_all wid ss d) (early_all other ss e)
    all_early_same no_stmts h d e k x i = refl
    all_early_same (stmt s ss) h d e k x i =
        ap₂ (λ p q. p || q) (early_same s h.0 d e k x i) (all_early_same ss h.1 (surely wid s d) (surely other s e) (surely_same s h.0 d e k) x i)

  -- what is no latch stays none
  pub no_latch_on : (s : Stmt) → IsStmtSized wid may s → ((x i : ℕ) → i < wid x → is_latch wid s x i ≡ false) → (x i : ℕ) → is_latch other s x i ≡ false
  no_latch_on s h f x i =
      ap₂ (λ p q. p && q) (may_same s h x i) (ap₂ (λ p q. not p || q) (surely_same s h none none (λ x i. refl) x i) (early_same s h none none (λ x i. refl) x i)) ∙ go (may_assign wid s x i) refl
    where
      go : (b : Bool) → may_assign wid s x i ≡ b → is_latch wid s x i ≡ false
      go true e = f x i (assigned_in wid may s h x i e)
      go false e = ap (λ p. p && (not (surely wid s none x i) || early wid s none x i)) e

-- ---- the rule of latches

none_below : (f : ℕ → Bool) (w i : ℕ) → any_below f w ≡ false → i < w → f i ≡ false
none_below f zero i e l = absurd (omega (arith, l))
none_below f (suc w) i e l = let p = or_parts (any_below f w) (f w) e in go (nat_lt i w) refl (none_below f w i p.0) p.1
  where
    go : (b : Bool) → nat_lt i w ≡ b → (i < w → f i ≡ false) → f w ≡ false → f i ≡ false
    go true k r q = r (ltb-true i w k)
    go false k r q = let m = ltb-false i w k in ap f (let n : i ≡ w = omega arith in n) ∙ q

pub no_latches : (es : List Entry) (body : Stmt) → latch_rule es body ≡ [] → (x i : ℕ) → i < width_at es x → is_latch (width_at es) body x i ≡ false
no_latches es body e x i l =
    let p : ℕ → Bool = λ s. any_below (is_latch (width_at es) body s) (width_at es s) in
    let known = is_declared_at es x (let k : 1 ≤ width_at es x = omega (arith, l) in k) in
    let n = none_from p 0 (length es) (go (first_from p 0 (length es)) e) x known in
    let z : 0 + x ≡ x = omega arith in
    none_below (is_latch (width_at es) body x) (width_at es x) i (sym (ap p z) ∙ n) l
  where
    go : (o : Option ℕ) → latch_of es o ≡ [] → o ≡ None
    go None e = refl
    go (Some s) e = absurd (search (rules, e))

-- What is well sized fits into its design: each select may be read where it stands.
use Rattle.std.proofs.Common.{◌≡◌, ℕ, ◌+◌, ◌<◌, ◌≤◌, Bool, true, false, not, ◌&&◌, ◌||◌, refl, ap₂, arith, rules}
use Rattle.std.proofs.lemmas.Bool.{or_parts}
use Rattle.std.proofs.lemmas.Nat.{pow_pos}
use Rattle.flat_meaning.specs.Flat.{Expr, Number, Read, At, Unary, Binary, Choose, Gate, Join, Repeat, Exprs, no_exprs, expr, size, sizes, largest, Target, Whole, Part, Pick, Group, Targets, no_targets, target, Stmt, Null, Set, If, Case, Block, Items, no_items, default_item, item, Stmts, no_stmts, stmt}
use Rattle.flat_meaning.specs.Fits.{Fits, AllFit}
use Rattle.flat_meaning.specs.Assigned.{Done, surely, FitsTarget, FitTargets, FitsStmt, FitItems, FitStmts}
use Rattle.flat_meaning.specs.Deps.{Bits, AllIn, union, span}
use Rattle.flat_meaning.proofs.Targets.{left_in, right_in}
use Rattle.flat_meaning.specs.Law.{expr_reads}
use Rattle.flat_form.specs.Uses.{without, exprs_read, target_reads, targets_read, stmt_reads, items_read, stmts_read}
use Rattle.flat_unfolding.specs.Reads.{early, early_in, early_all}
use Rattle.flat_unfolding.specs.Sized.{IsSized, AreSized, AreLabelsSized, IsTargetSized, AreTargetsSized, IsStmtSized, AreItemsSized, AreStmtsSized}
use Rattle.flat_unfolding.proofs.Terms.{times_some}
use Rattle.flat_unfolding.proofs.Alike.{either, named_at}

-- ---- sets of bits

pub true_left : (a b : Bool) → a ≡ true → (a || b) ≡ true
true_left true b e = refl
true_left false b e = absurd (search (rules, e))

pub true_right : (a b : Bool) → b ≡ true → (a || b) ≡ true
true_right true b e = refl
true_right false b e = e

both_read : (a b c d : Bool) → (a || b) ≡ true → (a ≡ true → c ≡ true) → (b ≡ true → d ≡ true) → (c || d) ≡ true
both_read true b c d e f g = true_left c d (f refl)
both_read false b c d e f g = true_right c d (g e)

-- ---- expressions

module _ (wid : ℕ → ℕ) where
  module _ (ok : (sig at width : ℕ) → Type 0) (good : Bits) (may : (s at w : ℕ) → 1 ≤ w → at + w ≤ wid s → AllIn good (span s at w) → ok s at w) where
    mutual
      pub fits : (e : Expr) → IsSized wid e → AllIn good (expr_reads wid e) → Fits wid ok e
      fits (Number w n) h g = tt
      fits (Read s at w) h g = may s at w h.0 h.1 g
      fits (At s e) h g =
          let p = pow_pos (size e) in let a = h.0 in
          (may s 0 (wid s) (let l : 1 ≤ wid s = omega arith in l) (let m : 0 + wid s ≤ wid s = omega arith in m) (left_in good (span s 0 (wid s)) (expr_reads wid e) g), h.0, fits e h.1 (right_in good (span s 0 (wid s)) (expr_reads wid e) g))
      fits (Unary op a) h g = fits a h g
      fits (Binary op a b) h g = (h.0, fits a h.1 (left_in good (expr_reads wid a) (expr_reads wid b) g), fits b h.2 (right_in good (expr_reads wid a) (expr_reads wid b) g))
      fits (Choose c x y) h g =
          let r = right_in good (expr_reads wid c) (union (expr_reads wid x) (expr_reads wid y)) g in
          (fits c h.0 (left_in good (expr_reads wid c) (union (expr_reads wid x) (expr_reads wid y)) g), fits x h.1 (left_in good (expr_reads wid x) (expr_reads wid y) r), fits y h.2 (right_in good (expr_reads wid x) (expr_reads wid y) r))
      fits (Gate op es) h g = let e = h.1 in (h.0, (let l : largest es ≤ 1 = omega arith in l), all_fit es h.2 g)
      fits (Join es) h g = (h.1, all_fit es h.2 g)
      fits (Repeat n es) h g = let l = times_some n (sizes es) h.0 h.1 in let m = h.2 in ((let k : sizes es ≤ 64 = omega arith in k), h.2, all_fit es h.3 g)

      pub all_fit : (es : Exprs) → AreSized wid es → AllIn good (exprs_read wid es) → AllFit wid ok es
      all_fit no_exprs h g = tt
      all_fit (expr e es) h g = (fits e h.0 (left_in good (expr_reads wid e) (exprs_read wid es) g), all_fit es h.1 (right_in good (expr_reads wid e) (exprs_read wid es) g))

  pub labels_are_sized : (es : Exprs) → AreLabelsSized wid es → AreSized wid es
  labels_are_sized no_exprs h = absurd h
  labels_are_sized (expr e es) h = h

  -- ---- statements

  module _ (may : ℕ → Bool) (local : ℕ → Bool) (ok : Done → (sig at width : ℕ) → Type 0) where
    -- a target of the process is read where it is done
    abbrev pub good : Done → Bits
    good d s i = not (local s) || d s i

    module _ (readable : (d : Done) (s at w : ℕ) → 1 ≤ w → at + w ≤ wid s → AllIn (good d) (span s at w) → ok d s at w) where
      -- no bit of a target is read too early
      abbrev pub NoneEarly : Bits → Type 0
      NoneEarly b = (s i : ℕ) → local s ≡ true → b s i ≡ false

      reads_good : (d : Done) (b : Bits) → NoneEarly (without d b) → AllIn (good d) b
      reads_good d b h s i e = go (local s) (d s i) refl refl
        where
          go : (l c : Bool) → local s ≡ l → d s i ≡ c → (not l || c) ≡ true
          go false c j k = refl
          go true true j k = refl
          go true false j k = absurd (let f = h s i j in let t : (b s i && not (d s i)) ≡ true = ap₂ (λ p q. p && not q) e k in search (rules, f, t))

      first_none : (a b : Bits) → NoneEarly (union a b) → NoneEarly a
      first_none a b h s i l = (or_parts (a s i) (b s i) (h s i l)).0

      second_none : (a b : Bits) → NoneEarly (union a b) → NoneEarly b
      second_none a b h s i l = (or_parts (a s i) (b s i) (h s i l)).1

      mutual
        target_fits : (d : Done) (t : Target) → IsTargetSized wid may t → AllIn (good d) (target_reads wid t) → FitsTarget wid ok d t
        target_fits d (Whole s) h g = tt
        target_fits d (Part s at w) h g = h.2
        target_fits d (Pick s e) h g = (h.1, fits (ok d) (good d) (readable d) e h.2 g)
        target_fits d (Group ts) h g = targets_fit d ts h.2 g

        targets_fit : (d : Done) (ts : Targets) → AreTargetsSized wid may ts → AllIn (good d) (targets_read wid ts) → FitTargets wid ok d ts
        targets_fit d no_targets h g = tt
        targets_fit d (target t ts) h g =
            (target_fits d t h.0 (left_in (good d) (target_reads wid t) (targets_read wid ts) g), targets_fit d ts h.1 (right_in (good d) (target_reads wid t) (targets_read wid ts) g))

      mutual
        pub stmt_fits : (d : Done) (s : Stmt) → IsStmtSized wid may s → NoneEarly (early wid s d) → FitsStmt wid ok d s
        stmt_fits d Null h n = tt
        stmt_fits d (Set b t e) h n =
            let g = reads_good d (union (expr_reads wid e) (target_reads wid t)) n in
            (fits (ok d) (good d) (readable d) e h.1 (left_in (good d) (expr_reads wid e) (target_reads wid t) g), target_fits d t h.0 (right_in (good d) (expr_reads wid e) (target_reads wid t) g))
        stmt_fits d (If c x y) h n =
            let r = second_none (without d (expr_reads wid c)) (union (early wid x d) (early wid y d)) n in (
              fits (ok d) (good d) (readable d) c h.0 (reads_good d (expr_reads wid c) (first_none (without d (expr_reads wid c)) (union (early wid x d) (early wid y d)) n)),
              stmt_fits d x h.1 (first_none (early wid x d) (early wid y d) r),
              stmt_fits d y h.2 (second_none (early wid x d) (early wid y d) r),
            )
        stmt_fits d (Case e is) h n = (
          fits (ok d) (good d) (readable d) e h.0 (reads_good d (expr_reads wid e) (first_none (without d (expr_reads wid e)) (early_in wid is d) n)),
          items_fit d is h.1 (second_none (without d (expr_reads wid e)) (early_in wid is d) n),
        )
        stmt_fits d (Block ss) h n = stmts_fit d ss h n

        pub items_fit : (d : Done) (is : Items) → AreItemsSized wid may is → NoneEarly (early_in wid is d) → FitItems wid ok d is
        items_fit d no_items h n = tt
        items_fit d (default_item s) h n = stmt_fits d s h n
        items_fit d (item ls s rest) h n =
            let r = second_none (without d (exprs_read wid ls)) (union (early wid s d) (early_in wid rest d)) n in (
              all_fit (ok d) (good d) (readable d) ls (labels_are_sized ls h.0) (reads_good d (exprs_read wid ls) (first_none (without d (exprs_read wid ls)) (union (early wid s d) (early_in wid rest d)) n)),
              stmt_fits d s h.1 (first_none (early wid s d) (early_in wid rest d) r),
              items_fit d rest h.2 (second_none (early wid s d) (early_in wid rest d) r),
            )

        pub stmts_fit : (d : Done) (ss : Stmts) → AreStmtsSized wid may ss → NoneEarly (early_all wid ss d) → FitStmts wid ok d ss
        stmts_fit d no_stmts h n = tt
        stmts_fit d (stmt s ss) h n =
            (stmt_fits d s h.0 (first_none (early wid s d) (early_all wid ss (surely wid s d)) n), stmts_fit (surely wid s d) ss h.1 (second_none (early wid s d) (early_all wid ss (surely wid s d)) n))

  -- ---- what is read too early is read

  read_less : (b c : Bool) → (b && not c) ≡ true → b ≡ true
  read_less true c e = refl
  read_less false c e = e

  mutual
    pub early_read : (s : Stmt) (d : Done) (x i : ℕ) → early wid s d x i ≡ true → stmt_reads wid s x i ≡ true
    early_read Null d x i e = e
    early_read (Set b t v) d x i e = read_less (union (expr_reads wid v) (target_reads wid t) x i) (d x i) e
    early_read (If c a b) d x i e =
        either (without d (expr_reads wid c) x i) (union (early wid a d) (early wid b d) x i) e
        (λ k. true_left (expr_reads wid c x i) (union (stmt_reads wid a) (stmt_reads wid b) x i) (read_less (expr_reads wid c x i) (d x i) k))
        (λ k. true_right (expr_reads wid c x i) (union (stmt_reads wid a) (stmt_reads wid b) x i) (both_read (early wid a d x i) (early wid b d x i) (stmt_reads wid a x i) (stmt_reads wid b x i) k (early_read a d x i) (early_read b d x i)))
    early_read (Case v is) d x i e =
        both_read (without d (expr_reads wid v) x i) (early_in wid is d x i) (expr_reads wid v x i) (items_read wid is x i) e (read_less (expr_reads wid v x i) (d x i)) (items_early_read is d x i)
    early_read (Block ss) d x i e = all_early_read ss d x i e

    items_early_read : (is : Items) (d : Done) (x i : ℕ) → early_in wid is d x i ≡ true → items_read wid is x i ≡ true
    items_early_read no_items d x i e = e
    items_early_read (default_item s) d x i e = early_read s d x i e
    items_early_read (item ls s rest) d x i e =
        both_read (without d (exprs_read wid ls) x i) (union (early wid s d) (early_in wid rest d) x i) (exprs_read wid ls x i) (union (stmt_reads wid s) (items_read wid rest) x i) e (read_less (exprs_read wid ls x i) (d x i))
        (λ k. both_read (early wid s d x i) (early_in wid rest d x i) (stmt_reads wid s x i) (items_read wid rest x i) k (early_read s d x i) (items_early_read rest d x i))

    all_early_read : (ss : Stmts) (d : Done) (x i : ℕ) → early_all wid ss d x i ≡ true → stmts_read wid ss x i ≡ true
    all_early_read no_stmts d x i e = e
    all_early_read (stmt s ss) d x i e = both_read (early wid s d x i) (early_all wid ss (surely wid s d) x i) (stmt_reads wid s x i) (stmts_read wid ss x i) e (early_read s d x i) (all_early_read ss (surely wid s d) x i)

  -- ---- what is read lies in its signal

  module _ (may : ℕ → Bool) where
    mutual
      reads_in : (e : Expr) → IsSized wid e → (x i : ℕ) → expr_reads wid e x i ≡ true → i < wid x
      reads_in (Number w n) h x i e = absurd (search (rules, e))
      reads_in (Read s at w) h x i e = named_at wid may x s at w i e h.1
      reads_in (At s v) h x i e = either (span s 0 (wid s) x i) (expr_reads wid v x i) e (λ k. named_at wid may x s 0 (wid s) i k (let l : 0 + wid s ≤ wid s = omega arith in l)) (reads_in v h.1 x i)
      reads_in (Unary op a) h x i e = reads_in a h x i e
      reads_in (Binary op a b) h x i e = either (expr_reads wid a x i) (expr_reads wid b x i) e (reads_in a h.1 x i) (reads_in b h.2 x i)
      reads_in (Choose c a b) h x i e = either (expr_reads wid c x i) (union (expr_reads wid a) (expr_reads wid b) x i) e (reads_in c h.0 x i)
          (λ k. either (expr_reads wid a x i) (expr_reads wid b x i) k (reads_in a h.1 x i) (reads_in b h.2 x i))
      reads_in (Gate op es) h x i e = all_reads_in es h.2 x i e
      reads_in (Join es) h x i e = all_reads_in es h.2 x i e
      reads_in (Repeat n es) h x i e = all_reads_in es h.3 x i e

      all_reads_in : (es : Exprs) → AreSized wid es → (x i : ℕ) → exprs_read wid es x i ≡ true → i < wid x
      all_reads_in no_exprs h x i e = absurd (search (rules, e))
      all_reads_in (expr v es) h x i e = either (expr_reads wid v x i) (exprs_read wid es x i) e (reads_in v h.0 x i) (all_reads_in es h.1 x i)

    mutual
      target_reads_in : (t : Target) → IsTargetSized wid may t → (x i : ℕ) → target_reads wid t x i ≡ true → i < wid x
      target_reads_in (Whole s) h x i e = absurd (search (rules, e))
      target_reads_in (Part s at w) h x i e = absurd (search (rules, e))
      target_reads_in (Pick s v) h x i e = reads_in v h.2 x i e
      target_reads_in (Group ts) h x i e = targets_read_in ts h.2 x i e

      targets_read_in : (ts : Targets) → AreTargetsSized wid may ts → (x i : ℕ) → targets_read wid ts x i ≡ true → i < wid x
      targets_read_in no_targets h x i e = absurd (search (rules, e))
      targets_read_in (target t ts) h x i e = either (target_reads wid t x i) (targets_read wid ts x i) e (target_reads_in t h.0 x i) (targets_read_in ts h.1 x i)

    mutual
      pub stmt_reads_in : (s : Stmt) → IsStmtSized wid may s → (x i : ℕ) → stmt_reads wid s x i ≡ true → i < wid x
      stmt_reads_in Null h x i e = absurd (search (rules, e))
      stmt_reads_in (Set b t v) h x i e = either (expr_reads wid v x i) (target_reads wid t x i) e (reads_in v h.1 x i) (target_reads_in t h.0 x i)
      stmt_reads_in (If c a b) h x i e = either (expr_reads wid c x i) (union (stmt_reads wid a) (stmt_reads wid b) x i) e (reads_in c h.0 x i)
          (λ k. either (stmt_reads wid a x i) (stmt_reads wid b x i) k (stmt_reads_in a h.1 x i) (stmt_reads_in b h.2 x i))
      stmt_reads_in (Case v is) h x i e = either (expr_reads wid v x i) (items_read wid is x i) e (reads_in v h.0 x i) (items_read_in is h.1 x i)
      stmt_reads_in (Block ss) h x i e = stmts_read_in ss h x i e

      items_read_in : (is : Items) → AreItemsSized wid may is → (x i : ℕ) → items_read wid is x i ≡ true → i < wid x
      items_read_in no_items h x i e = absurd (search (rules, e))
      items_read_in (default_item s) h x i e = stmt_reads_in s h x i e
      items_read_in (item ls s rest) h x i e = either (exprs_read wid ls x i) (union (stmt_reads wid s) (items_read wid rest) x i) e (all_reads_in ls (labels_are_sized ls h.0) x i)
          (λ k. either (stmt_reads wid s x i) (items_read wid rest x i) k (stmt_reads_in s h.1 x i) (items_read_in rest h.2 x i))

      stmts_read_in : (ss : Stmts) → AreStmtsSized wid may ss → (x i : ℕ) → stmts_read wid ss x i ≡ true → i < wid x
      stmts_read_in no_stmts h x i e = absurd (search (rules, e))
      stmts_read_in (stmt s ss) h x i e = either (stmt_reads wid s x i) (stmts_read wid ss x i) e (stmt_reads_in s h.0 x i) (stmts_read_in ss h.1 x i)

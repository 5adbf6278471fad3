-- Counts of drivers: what assigns a signal counts, and the trial of drivers leaves no more than one process.
use Rattle.std.proofs.Common.{◌≡◌, ℕ, zero, suc, ◌+◌, ◌^◌, ◌<◌, ◌≤◌, Bool, true, false, ◌&&◌, ◌||◌, ◌==◌, nat_le, List, [], ◌∷◌, ◌++◌, map, Option, Some, refl, sym, ap, subst, ◌∙◌, arith, rules, eqb-true, leb-false, le-leb}
use Rattle.std.specs.Prelude.{slice_get, All}
use Rattle.std.specs.List.{list_any}
use Rattle.std.proofs.lemmas.Bool.{or_parts}
use Rattle.std.proofs.lemmas.List.Elements.{All-head, All-cons, All-nil, All-tail}
use Rattle.cdc_base.specs.declared.signal.Signal.{Signal}
use Rattle.std.proofs.lemmas.Nat.{pow_pos}
use Rattle.flat_meaning.specs.Flat.{Expr, size, Target, Whole, Part, Pick, Group, Targets, no_targets, target, Stmt, Null, Set, If, Case, Block, Items, no_items, default_item, item, Stmts, no_stmts, stmt, is_target, are_targets, assigns, case_assigns, all_assign}
use Rattle.flat_meaning.specs.Assigned.{is_within, may_assign}
use Rattle.flat_meaning.specs.Design.{Flat, size_in, once, times_in, all_times_in, times_assigned, times_processed}
use Rattle.flat_meaning.proofs.Drivers.{not_assigned}
use Rattle.flat_unfolding.specs.Outcome.{good}
use Rattle.flat_unfolding.specs.Reads.{first_from}
use Rattle.flat_unfolding.specs.Drivers.{assigned_by, bodies, is_clocked, all_drivers, processes, times_driven, have_other_edges, is_shared, is_double, refuse_first, is_undriven, driven_once}
use Rattle.flat_unfolding.specs.Sized.{IsTargetSized, AreTargetsSized, IsStmtSized, AreItemsSized, AreStmtsSized}
use Rattle.flat_unfolding.proofs.Steps.{good_then, some_is}
use Rattle.flat_unfolding.proofs.OneDriver.{no_bit_breaks, none_from, no_bit}
use Rattle.flat_unfolding.proofs.Grown.{all_on}
use Rattle.flat_unfolding.proofs.Alike.{either}
use Rattle.flat_unfolding.proofs.Apart.{fewer_bodies, OneClock, clock_of_all}
use Rattle.flat_unfolding.proofs.Fit.{true_left, true_right}

-- ---- what is assigned is declared, and may be a target

picked : (k n : ℕ) → 2 ^ k ≤ n → 1 ≤ n
picked k n h = let p = pow_pos k in omega arith

module _ (wid : ℕ → ℕ) (may : ℕ → Bool) where
  abbrev IsTargetOf : ℕ → Type 0
  IsTargetOf s = (may s ≡ true) × (1 ≤ wid s)

  same_target : (x s : ℕ) → IsTargetOf s → (x == s) ≡ true → IsTargetOf x
  same_target x s h e = subst IsTargetOf (sym (eqb-true x s e)) h

  mutual
    target_of : (t : Target) → IsTargetSized wid may t → (x : ℕ) → is_target t x ≡ true → IsTargetOf x
    target_of (Whole s) h x e = same_target x s (h.0, h.1) e
    target_of (Part s at w) h x e = let a = h.1 in let b = h.2 in same_target x s (h.0, (let l : 1 ≤ wid s = omega arith in l)) e
    target_of (Pick s v) h x e = same_target x s (h.0, picked (size v) (wid s) h.1) e
    target_of (Group ts) h x e = targets_of ts h.2 x e

    targets_of : (ts : Targets) → AreTargetsSized wid may ts → (x : ℕ) → are_targets ts x ≡ true → IsTargetOf x
    targets_of no_targets h x e = absurd (search (rules, e))
    targets_of (target t ts) h x e = either (is_target t x) (are_targets ts x) e (target_of t h.0 x) (targets_of ts h.1 x)

  mutual
    pub assigned_is : (s : Stmt) → IsStmtSized wid may s → (x : ℕ) → assigns s x ≡ true → IsTargetOf x
    assigned_is Null h x e = absurd (search (rules, e))
    assigned_is (Set b t v) h x e = target_of t h.0 x e
    assigned_is (If c a b) h x e = either (assigns a x) (assigns b x) e (assigned_is a h.1 x) (assigned_is b h.2 x)
    assigned_is (Case v is) h x e = item_assigned_is is h.1 x e
    assigned_is (Block ss) h x e = all_assigned_is ss h x e

    item_assigned_is : (is : Items) → AreItemsSized wid may is → (x : ℕ) → case_assigns is x ≡ true → IsTargetOf x
    item_assigned_is no_items h x e = absurd (search (rules, e))
    item_assigned_is (default_item s) h x e = assigned_is s h x e
    item_assigned_is (item ls s rest) h x e = either (assigns s x) (case_assigns rest x) e (assigned_is s h.1 x) (item_assigned_is rest h.2 x)

    all_assigned_is : (ss : Stmts) → AreStmtsSized wid may ss → (x : ℕ) → all_assign ss x ≡ true → IsTargetOf x
    all_assigned_is no_stmts h x e = absurd (search (rules, e))
    all_assigned_is (stmt s ss) h x e = either (assigns s x) (all_assign ss x) e (assigned_is s h.0 x) (all_assigned_is ss h.1 x)

  -- what may be no target is not driven
  module _ (bits : ℕ → ℕ) (x i : ℕ) (no : may x ≡ false) where
    untimed : (s : ℕ) (b : Bool) → may s ≡ true → once ((x == s) && b) ≡ 0
    untimed s b h = go (x == s) refl
      where
        go : (c : Bool) → (x == s) ≡ c → once (c && b) ≡ 0
        go false e = refl
        go true e = absurd (let m : may x ≡ true = subst (λ n. may n ≡ true) (sym (eqb-true x s e)) h in search (rules, no, m))

    mutual
      pub never_timed : (t : Target) → IsTargetSized wid may t → times_in bits x i t ≡ 0
      never_timed (Whole s) h = untimed s (is_within 0 (bits s) i) h.0
      never_timed (Part s at w) h = untimed s (is_within at w i) h.0
      never_timed (Pick s e) h = refl
      never_timed (Group ts) h = none_timed ts h.2

      none_timed : (ts : Targets) → AreTargetsSized wid may ts → all_times_in bits x i ts ≡ 0
      none_timed no_targets h = refl
      none_timed (target t ts) h = let a = never_timed t h.0 in let b = none_timed ts h.1 in omega arith

-- what is no target of an assignment is not driven by it
module _ (bits : ℕ → ℕ) (x i : ℕ) where
  mutual
    untargeted : (t : Target) → is_target t x ≡ false → times_in bits x i t ≡ 0
    untargeted (Whole s) h = ap (λ b. once (b && is_within 0 (bits s) i)) h
    untargeted (Part s at w) h = ap (λ b. once (b && is_within at w i)) h
    untargeted (Pick s e) h = refl
    untargeted (Group ts) h = all_untargeted ts h

    all_untargeted : (ts : Targets) → are_targets ts x ≡ false → all_times_in bits x i ts ≡ 0
    all_untargeted no_targets h = refl
    all_untargeted (target t ts) h =
        let k = or_parts (is_target t x) (are_targets ts x) h in
        let a = untargeted t k.0 in let b = all_untargeted ts k.1 in omega arith

  unassigned : (xs : List (Target × Expr)) → list_any (λ (a : Target × Expr). is_target a.0 x) xs ≡ false → times_assigned bits x i xs ≡ 0
  unassigned [] h = refl
  unassigned (a ∷ xs) h =
      let k = or_parts (is_target a.0 x) (list_any (λ (b : Target × Expr). is_target b.0 x) xs) h in
      let p = untargeted a.0 k.0 in let q = unassigned xs k.1 in omega arith

  pub is_assigned : (xs : List (Target × Expr)) → 1 ≤ times_assigned bits x i xs → list_any (λ (a : Target × Expr). is_target a.0 x) xs ≡ true
  is_assigned xs l = go (list_any (λ (a : Target × Expr). is_target a.0 x) xs) refl
    where
      go : (b : Bool) → list_any (λ (a : Target × Expr). is_target a.0 x) xs ≡ b → b ≡ true
      go true e = refl
      go false e = let z = unassigned xs e in absurd (omega (arith, z, l))

-- ---- counts

once_true : (b : Bool) → b ≡ true → once b ≡ 1
once_true true e = refl
once_true false e = absurd (search (rules, e))

once_false : (b : Bool) → b ≡ false → once b ≡ 0
once_false b e = ap once e

once_some : (b : Bool) → 1 ≤ once b → b ≡ true
once_some true e = refl
once_some false e = absurd (omega (arith, e))

pub assigned_by_both : (xs ys : List Stmt) (s : ℕ) → assigned_by (xs ++ ys) s ≡ assigned_by xs s + assigned_by ys s
assigned_by_both [] ys s = let h : assigned_by ys s ≡ 0 + assigned_by ys s = omega arith in h
assigned_by_both (x ∷ xs) ys s = let h = assigned_by_both xs ys s in let e : once (assigns x s) + (assigned_by xs s + assigned_by ys s) ≡ once (assigns x s) + assigned_by xs s + assigned_by ys s = omega arith in ap (λ n. once (assigns x s) + n) h ∙ e

-- each that assigns a signal counts
pub counted : (xs : List Stmt) → All (λ (b : Stmt). (s : ℕ) → assigns b s ≡ true → 1 ≤ assigned_by xs s) xs
counted [] = All-nil (λ (b : Stmt). (s : ℕ) → assigns b s ≡ true → 1 ≤ assigned_by [] s)
counted (x ∷ xs) =
    All-cons (λ (b : Stmt). (s : ℕ) → assigns b s ≡ true → 1 ≤ assigned_by (x ∷ xs) s) x xs (λ s e. let o = once_true (assigns x s) e in omega arith)
    (all_on (λ (b : Stmt). (s : ℕ) → assigns b s ≡ true → 1 ≤ assigned_by xs s) (λ (b : Stmt). (s : ℕ) → assigns b s ≡ true → 1 ≤ assigned_by (x ∷ xs) s) xs (λ b h s e. let l = h s e in omega arith) (counted xs))

pub registered : (ps : List (ℕ × Stmt)) (s : ℕ) → list_any (λ (p : ℕ × Stmt). assigns p.1 s) ps ≡ true → 1 ≤ assigned_by (map (λ (p : ℕ × Stmt). p.1) ps) s
registered [] s e = absurd (search (rules, e))
registered (p ∷ ps) s e =
    let rest = assigned_by (map (λ (q : ℕ × Stmt). q.1) ps) s in
    either (assigns p.1 s) (list_any (λ (q : ℕ × Stmt). assigns q.1 s) ps) e
    (λ k. let o = once_true (assigns p.1 s) k in let l : 1 ≤ once (assigns p.1 s) + rest = omega arith in l)
    (λ k. let r = registered ps s k in let l : 1 ≤ once (assigns p.1 s) + rest = omega arith in l)

pub unregistered : (ps : List (ℕ × Stmt)) (s : ℕ) → list_any (λ (p : ℕ × Stmt). assigns p.1 s) ps ≡ false → assigned_by (map (λ (p : ℕ × Stmt). p.1) ps) s ≡ 0
unregistered [] s e = refl
unregistered (p ∷ ps) s e =
    let o = or_parts (assigns p.1 s) (list_any (λ (q : ℕ × Stmt). assigns q.1 s) ps) e in
    let a = once_false (assigns p.1 s) o.0 in let b = unregistered ps s o.1 in omega arith

-- one of a list passes what any of it does
pub among : {A : Type 0} (p : A → ℕ → ℕ → Bool) (xs : List A) → All (λ (a : A). (s i : ℕ) → p a s i ≡ true → list_any (λ b. p b s i) xs ≡ true) xs
among p [] = All-nil _
among {A} p (x ∷ xs) =
    All-cons (λ (a : A). (s i : ℕ) → p a s i ≡ true → list_any (λ b. p b s i) (x ∷ xs) ≡ true) x xs (λ s i e. true_left (p x s i) (list_any (λ b. p b s i) xs) e)
    (all_on (λ (a : A). (s i : ℕ) → p a s i ≡ true → list_any (λ b. p b s i) xs ≡ true) (λ (a : A). (s i : ℕ) → p a s i ≡ true → list_any (λ b. p b s i) (x ∷ xs) ≡ true) xs
    (λ b h s i e. true_right (p x s i) (list_any (λ b. p b s i) xs) (h s i e)) (among p xs))

pub any_front : {A : Type 0} (p : A → Bool) (xs ys : List A) → list_any p xs ≡ true → list_any p (xs ++ ys) ≡ true
any_front p [] ys e = absurd (search (rules, e))
any_front p (x ∷ xs) ys e = either (p x) (list_any p xs) e (λ k. true_left (p x) (list_any p (xs ++ ys)) k) (λ k. true_right (p x) (list_any p (xs ++ ys)) (any_front p xs ys k))

pub all_and : {A : Type 0} (P Q : A → Type 0) (xs : List A) → All P xs → All Q xs → All (λ a. P a × Q a) xs
all_and P Q [] h k = All-nil (λ a. P a × Q a)
all_and P Q (x ∷ xs) h k = All-cons (λ a. P a × Q a) x xs (All-head P x xs h, All-head Q x xs k) (all_and P Q xs (All-tail P x xs h) (All-tail Q x xs k))

pub all_swap : {A J : Type 0} (P : J → A → Type 0) (xs : List A) → ((j : J) → All (P j) xs) → All (λ a. (j : J) → P j a) xs
all_swap {A} {J} P [] h = All-nil (λ a. (j : J) → P j a)
all_swap {A} {J} P (x ∷ xs) h = All-cons (λ a. (j : J) → P j a) x xs (λ j. All-head (P j) x xs (h j)) (all_swap P xs (λ j. All-tail (P j) x xs (h j)))

-- ---- the process that drives a bit

none_assign : (xs : List Stmt) (s : ℕ) → assigned_by xs s ≡ 0 → All (λ (b : Stmt). assigns b s ≡ false) xs
none_assign [] s e = All-nil (λ (b : Stmt). assigns b s ≡ false)
none_assign (x ∷ xs) s e =
    All-cons (λ (b : Stmt). assigns b s ≡ false) x xs (not_once (assigns x s) (let l : once (assigns x s) ≡ 0 = omega (arith, e) in l)) (none_assign xs s (let l : assigned_by xs s ≡ 0 = omega (arith, e) in l))
  where
    not_once : (b : Bool) → once b ≡ 0 → b ≡ false
    not_once false e = refl
    not_once true e = absurd (search (rules, e))

module _ (wid : ℕ → ℕ) (s i : ℕ) where
  -- what drives a bit assigns its signal
  driving : (x : Stmt) → once (may_assign wid x s i) ≤ once (assigns x s)
  driving x = go (assigns x s) refl
    where
      small : (b : Bool) → once b ≤ 1
      small true = let l : 1 ≤ 1 = omega arith in l
      small false = let l : 0 ≤ 1 = omega arith in l

      go : (b : Bool) → assigns x s ≡ b → once (may_assign wid x s i) ≤ once b
      go true e = small (may_assign wid x s i)
      go false e = let l : once (may_assign wid x s i) ≡ 0 = ap once (not_assigned wid s x i e) in omega arith

  no_more : (xs : List Stmt) → times_processed wid s i xs ≤ assigned_by xs s
  no_more [] = let l : 0 ≤ 0 = omega arith in l
  no_more (x ∷ xs) = let a = driving x in let b = no_more xs in omega arith

  -- where one process alone assigns a signal, it drives each bit of it that a process drives
  pub only : (xs : List Stmt) → assigned_by xs s ≤ 1 → 1 ≤ times_processed wid s i xs → All (λ (b : Stmt). assigns b s ≡ true → may_assign wid b s i ≡ true) xs
  only [] l m = absurd (omega (arith, m))
  only (x ∷ xs) l m = go (may_assign wid x s i) refl (only xs)
    where
      go : (b : Bool) → may_assign wid x s i ≡ b → (assigned_by xs s ≤ 1 → 1 ≤ times_processed wid s i xs → All (λ (b : Stmt). assigns b s ≡ true → may_assign wid b s i ≡ true) xs)
          → All (λ (b : Stmt). assigns b s ≡ true → may_assign wid b s i ≡ true) (x ∷ xs)
      go true e r =
          let o = once_true (may_assign wid x s i) e in let d = driving x in
          let none : assigned_by xs s ≡ 0 = omega (arith, l, o, d) in
          All-cons (λ (b : Stmt). assigns b s ≡ true → may_assign wid b s i ≡ true) x xs (λ k. e)
          (all_on (λ (b : Stmt). assigns b s ≡ false) (λ (b : Stmt). assigns b s ≡ true → may_assign wid b s i ≡ true) xs (λ b f k. absurd (search (rules, f, k))) (none_assign xs s none))
      go false e r =
          let o = once_false (may_assign wid x s i) e in
          let more : 1 ≤ times_processed wid s i xs = omega (arith, m, o) in
          let n = no_more xs in
          All-cons (λ (b : Stmt). assigns b s ≡ true → may_assign wid b s i ≡ true) x xs (λ k. absurd (let c = once_true (assigns x s) k in omega (arith, l, n, more, c)))
          (r (let q : assigned_by xs s ≤ 1 = omega (arith, l) in q) more)

  -- each assignment counts
  pub timed : (xs : List (Target × Expr)) → All (λ (a : Target × Expr). times_in wid s i a.0 ≤ times_assigned wid s i xs) xs
  timed [] = All-nil (λ (a : Target × Expr). times_in wid s i a.0 ≤ times_assigned wid s i [])
  timed (x ∷ xs) =
      All-cons (λ (a : Target × Expr). times_in wid s i a.0 ≤ times_assigned wid s i (x ∷ xs)) x xs (let l : times_in wid s i x.0 ≤ times_in wid s i x.0 + times_assigned wid s i xs = omega arith in l)
      (all_on (λ (a : Target × Expr). times_in wid s i a.0 ≤ times_assigned wid s i xs) (λ (a : Target × Expr). times_in wid s i a.0 ≤ times_assigned wid s i (x ∷ xs)) xs (λ b h. let l : times_in wid s i b.0 ≤ times_in wid s i x.0 + times_assigned wid s i xs = omega (arith, h) in l) (timed xs))

-- ---- the trial of drivers

-- where no bit is refused, none breaks the rule, as the signal is
no_signal_breaks : (rule : ℕ) (p : ℕ → Signal → ℕ → Bool) (n : ℕ) (xs : List Signal) (u : Unit {0}) → refuse_first rule p n xs ≡ good u → (s i : ℕ) (x : Signal) → slice_get xs s ≡ Some x → i < x.width → p (n + s) x i ≡ false
no_signal_breaks rule p n [] u e s i x f l = absurd (search (rules, f))
no_signal_breaks rule p n (y ∷ xs) u e zero i x f l =
    let g = no_bit rule y (first_from (p n y) 0 y.width) (refuse_first rule p (suc n) xs) u e in
    let h : n + 0 ≡ n = omega arith in let z : 0 + i ≡ i = omega arith in
    let same = some_is y x f in
    subst (λ (q : Signal). i < q.width → p (n + 0) q i ≡ false) same (λ m. ap (λ k. p k y i) h ∙ sym (ap (p n y) z) ∙ none_from (p n y) 0 y.width g.0 i m) l
no_signal_breaks rule p n (y ∷ xs) u e (suc s) i x f l =
    let g = no_bit rule y (first_from (p n y) 0 y.width) (refuse_first rule p (suc n) xs) u e in
    let h : n + suc s ≡ suc n + s = omega arith in
    ap (λ k. p k x i) h ∙ no_signal_breaks rule p (suc n) xs u g.1 s i x f l

-- clocked processes count as one driver
pub clocked_counts : (f : Flat) (s : ℕ) → 1 ≤ assigned_by (bodies f) s → once (is_clocked f s) ≡ 1
clocked_counts f s l = ap once (le-leb 1 (assigned_by (bodies f) s) l)

pub unclocked_counts : (f : Flat) (s : ℕ) → assigned_by (bodies f) s ≡ 0 → once (is_clocked f s) ≡ 0
unclocked_counts f s e = ap (λ n. once (nat_le 1 n)) e

module _ (f : Flat) (resets : List (Option ℕ × Stmt)) (u : Unit {0}) (tried : driven_once f resets ≡ good u) where
  abbrev times : (s i : ℕ) → ℕ
  times s i = times_driven (size_in f) (processes f.clocked resets) s i

  pub not_double : (s i : ℕ) → i < size_in f s → is_double f resets s i ≡ false
  not_double s i l =
      let g = good_then (refuse_first 309 (λ s x i. is_double f resets s i) 0 f.signals) (λ w. refuse_first 310 (is_undriven f) 0 f.signals) u tried in
      let z : 0 + s ≡ s = omega arith in
      sym (ap (λ m. is_double f resets m i) z) ∙ no_bit_breaks 309 (is_double f resets) 0 f.signals g.0 g.1 s i l

  pub not_undriven : (s i : ℕ) (x : Signal) → slice_get f.signals s ≡ Some x → i < x.width → is_undriven f s x i ≡ false
  not_undriven s i x e l =
      let g = good_then (refuse_first 309 (λ s x i. is_double f resets s i) 0 f.signals) (λ w. refuse_first 310 (is_undriven f) 0 f.signals) u tried in
      let z : 0 + s ≡ s = omega arith in
      sym (ap (λ m. is_undriven f m x i) z) ∙ no_signal_breaks 310 (is_undriven f) 0 f.signals u g.2 s i x e l

  -- the three ways in which a bit has two drivers
  not_twice : (s i : ℕ) → i < size_in f s → (nat_le 2 (all_drivers f s i) ≡ false) × (nat_le 2 (times s i) ≡ false) × (is_shared f resets s ≡ false)
  not_twice s i l =
      let d = or_parts (nat_le 2 (all_drivers f s i) || nat_le 2 (times s i)) (is_shared f resets s) (not_double s i l) in
      let e = or_parts (nat_le 2 (all_drivers f s i)) (nat_le 2 (times s i)) d.0 in (e.0, e.1, d.1)

  -- a bit has one driver at most
  pub few_drivers : (s i : ℕ) → i < size_in f s → all_drivers f s i ≤ 1
  few_drivers s i l = let m = leb-false 2 (all_drivers f s i) (not_twice s i l).0 in omega arith

  -- and one clocked process at most assigns it
  pub few_bodies : (s i : ℕ) → i < size_in f s → times_processed (size_in f) s i (bodies f) ≤ 1
  few_bodies s i l = let m = leb-false 2 (times s i) (not_twice s i l).1 in let n = fewer_bodies (size_in f) s i f.clocked resets in omega arith

  not_shared : (s : ℕ) → 1 ≤ size_in f s → is_shared f resets s ≡ false
  not_shared s l = (not_twice s 0 (let k : 0 < size_in f s = omega arith in k)).2

  -- a signal has one process of wires, or clocked ones
  pub few_processes : (s : ℕ) → 1 ≤ size_in f s → assigned_by f.combs s + once (is_clocked f s) ≤ 1
  few_processes s l =
      let d = or_parts (nat_le 2 (assigned_by f.combs s + once (is_clocked f s))) (have_other_edges (processes f.clocked resets) s) (not_shared s l) in
      let m = leb-false 2 (assigned_by f.combs s + once (is_clocked f s)) d.0 in omega arith

  pub one_clock : (s : ℕ) → 1 ≤ size_in f s → OneClock s f.clocked
  one_clock s l =
      let d = or_parts (nat_le 2 (assigned_by f.combs s + once (is_clocked f s))) (have_other_edges (processes f.clocked resets) s) (not_shared s l) in
      clock_of_all s f.clocked resets d.1

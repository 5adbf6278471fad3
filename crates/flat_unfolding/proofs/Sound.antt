-- Unfoldings are sound: what the law of elaboration rests on.
use Rattle.std.proofs.Common.{◌≡◌, ℕ, zero, suc, ◌+◌, ◌<◌, ◌≤◌, Bool, true, false, cond, not, ◌&&◌, ◌||◌, ◌==◌, nat_lt, List, [], ◌∷◌, ◌++◌, length, Option, Some, None, refl, sym, ap, ap₂, subst, ◌∙◌, arith, rules, eq-eqb, lt-ltb, le-leb, ltb-true}
use Rattle.std.specs.Prelude.{◌≢◌, slice_get, All}
use Rattle.std.specs.List.{list_any}
use Rattle.std.specs.Option.{option_or}
use Rattle.std.proofs.lemmas.Bool.{and_parts, or_parts}
use Rattle.std.proofs.lemmas.List.Elements.{All-head, All-tail, All-append}
use Rattle.cdc_base.specs.declared.signal.Signal.{Signal}
use Rattle.cdc_base.specs.declared.signal.SigKind.{SigKind}
use Rattle.cdc_base.specs.declared.signal.SigKind.TheVariants.{Input, Register, Wire}
use Rattle.flat_meaning.specs.Flat.{Expr, Number, Target, Whole, Part, Pick, Group, Targets, no_targets, target, Stmt, assigns}
use Rattle.flat_meaning.specs.Assigned.{Done, is_within, surely, may_assign}
use Rattle.flat_meaning.specs.Deps.{AllIn, none, span}
use Rattle.flat_meaning.specs.Law.{MayBe, MayRead}
use Rattle.flat_meaning.specs.Design.{Flat, size_in, kind_in, kind_is_variable, is_variable, once, times_in, all_times_in, times_assigned, times_processed}
use Rattle.flat_meaning.specs.Sound.{inside, DrivesWires, AllDriveWires, IsSoundAssign, IsSoundComb, IsSoundClocked, IsSound}
use Rattle.flat_unfolding.specs.Outcome.{Text, good}
use Rattle.flat_unfolding.specs.Names.{Entry, width_at}
use Rattle.flat_unfolding.specs.Targets.{first_pick, first_pick_in}
use Rattle.flat_form.specs.Uses.{stmt_reads}
use Rattle.flat_unfolding.specs.Reads.{early, is_latch}
use Rattle.flat_unfolding.specs.Design.{Design}
use Rattle.flat_unfolding.specs.Signals.{is_register, is_processed, constants_from, with_constants, with_free, kind_of, signals_from}
use Rattle.flat_unfolding.specs.Drivers.{assigned_by, bodies, all_drivers, is_read, is_from_outside, driven_once}
use Rattle.flat_unfolding.specs.Sized.{IsTargetSized, AreTargetsSized, IsStmtSized}
use Rattle.flat_unfolding.specs.Laws.{SoundLaw, IsWellClocked, WellClockedLaw}
use Rattle.flat_unfolding.proofs.OneDriver.{one_driver}
use Rattle.flat_unfolding.proofs.Known.{reg_at, top_at}
use Rattle.flat_unfolding.proofs.Aims.{not_true}
use Rattle.flat_unfolding.proofs.Grown.{is_declared_at, has_bits, all_on, expr_agrees, target_agrees, stmt_agrees}
use Rattle.flat_unfolding.proofs.Stages.{IsEntry, words_of, drivable_at, IsAssignIn, IsCombIn, IsClockedIn, IsDesign}
use Rattle.flat_unfolding.proofs.Alike.{either, no_latch_on}
use Rattle.flat_unfolding.proofs.Fit.{true_left, fits, good as good_bits, stmt_fits, early_read, stmt_reads_in}
use Rattle.flat_unfolding.proofs.Driven.{assigned_is, never_timed, is_assigned, counted, registered, unregistered, among, any_front, all_and, all_swap, only, timed, clocked_counts, unclocked_counts, not_undriven, few_drivers, few_bodies, few_processes, one_clock}
use Rattle.flat_unfolding.proofs.Apart.{HasClock}
use Rattle.flat_unfolding.proofs.Free.{free_width, driven_top, assigned_driven, processed_driven}
use Rattle.flat_unfolding.proofs.Constants.{constants_hold, times_both, none_constant}
use Rattle.flat_unfolding.proofs.Visits.{flattened, accepted, flat_widths}
use Rattle.flat_unfolding.proofs.Visited.{flat_agrees, reached}

-- ---- kinds

kind_varies : (e : Entry) (b : Bool) → kind_is_variable (kind_of e b) ≡ (b || e.is_top_input)
kind_varies e true = refl
kind_varies e false = go e.is_top_input
  where
    go : (b : Bool) → kind_is_variable (cond b Input Wire) ≡ b
    go true = refl
    go false = refl

signals_vary : (d : Design) (n : ℕ) (es : List Entry) (s : ℕ) → s < length es → kind_is_variable (kind_in (signals_from d n es) s) ≡ (is_register d (n + s) || top_at es s)
signals_vary d n [] s l = absurd (omega (arith, l))
signals_vary d n (e ∷ es) zero l = kind_varies e (is_register d n) ∙ ap (λ k. is_register d k || e.is_top_input) (let h : n ≡ n + 0 = omega arith in h)
signals_vary d n (e ∷ es) (suc s) l = signals_vary d (suc n) es s (let k : s < length es = omega (arith, l) in k) ∙ ap (λ k. is_register d k || top_at es s) (let h : suc n + s ≡ n + suc s = omega arith in h)

register_kind : (d : Design) (n : ℕ) (es : List Entry) (s : ℕ) → kind_in (signals_from d n es) s ≡ Register → (s < length es) × (is_register d (n + s) ≡ true)
register_kind d n [] s e = absurd (search (rules, e))
register_kind d n (x ∷ es) zero e = ((let l : 0 < length (x ∷ es) = omega arith in l), subst (λ k. is_register d k ≡ true) (let h : n ≡ n + 0 = omega arith in h) (go (is_register d n) e))
  where
    other : (b : Bool) → cond b Input Wire ≢ Register
    other true e = search (rules, e)
    other false e = search (rules, e)

    go : (b : Bool) → kind_of x b ≡ Register → b ≡ true
    go true e = refl
    go false e = absurd (other x.is_top_input e)
register_kind d n (x ∷ es) (suc s) e =
    let k = register_kind d (suc n) es s e in let l = k.0 in
    ((let m : suc s < length (x ∷ es) = omega arith in m), subst (λ k. is_register d k ≡ true) (let h : suc n + s ≡ n + suc s = omega arith in h) k.1)

kind_register : (d : Design) (n : ℕ) (es : List Entry) (s : ℕ) → s < length es → is_register d (n + s) ≡ true → kind_in (signals_from d n es) s ≡ Register
kind_register d n [] s l e = absurd (omega (arith, l))
kind_register d n (x ∷ es) zero l e = ap (kind_of x) (ap (is_register d) (let h : n ≡ n + 0 = omega arith in h) ∙ e)
kind_register d n (x ∷ es) (suc s) l e = kind_register d (suc n) es s (let k : s < length es = omega (arith, l) in k) (ap (is_register d) (let h : suc n + s ≡ n + suc s = omega arith in h) ∙ e)

reg_no_top : (es : List Entry) → All IsEntry es → (s : ℕ) → reg_at es s ≡ true → top_at es s ≡ false
reg_no_top [] h s e = refl
reg_no_top (x ∷ es) h zero e = go x.is_top_input refl
  where
    go : (b : Bool) → x.is_top_input ≡ b → b ≡ false
    go false k = refl
    go true k = let i = All-head IsEntry x es h in let n = i.input (i.top k) in absurd (search (rules, n, e))
reg_no_top (x ∷ es) h (suc s) e = reg_no_top es (All-tail IsEntry x es h) s e

-- what isn't variable doesn't come from outside
not_outside : (k : SigKind) → kind_is_variable k ≡ false → is_from_outside k ≡ false
not_outside Input e = absurd (search (rules, e))
not_outside Register e = absurd (search (rules, e))
not_outside Wire e = refl

both_false : (a b : Bool) → a ≡ false → b ≡ false → (a || b) ≡ false
both_false a b h k = ap₂ (λ p q. p || q) h k

module _ (named : List Text) (d : Design) (h : IsDesign d) (u : Unit {0}) (ok : driven_once (flattened named d) d.resets ≡ good u) where
  abbrev f : Flat
  f = flattened named d

  -- with free signals, which come from outside
  abbrev freed : Design
  freed = with_free named d

  abbrev signals : List Entry
  signals = freed.entries

  -- what is assigned beside the design's own assignments
  abbrev constants : List (Target × Expr)
  constants = constants_from freed 0 signals

  abbrev wid : ℕ → ℕ
  wid = width_at d.entries

  abbrev flat : ℕ → ℕ
  flat = size_in f

  agree : (s : ℕ) → 1 ≤ wid s → flat s ≡ wid s
  agree = flat_agrees named d

  same : (s : ℕ) → flat s ≡ wid s
  same s = flat_widths named d s

  declared : (s : ℕ) → 1 ≤ wid s → s < length signals
  declared s l = is_declared_at signals s (subst (λ w. 1 ≤ w) (sym (free_width named d s)) l)

  -- a signal of the design is variable where it is a register or comes from outside
  varies : (s : ℕ) → 1 ≤ flat s → is_variable f s ≡ (is_register d s || top_at signals s)
  varies s l =
      let z : 0 + s ≡ s = omega arith in
      signals_vary (with_constants freed) 0 signals s (declared s (subst (λ w. 1 ≤ w) (same s) l)) ∙ ap (λ k. is_register d k || top_at signals s) z

  -- ---- clocked processes

  clocked_stmt : (b : Stmt) → IsStmtSized wid (reg_at d.entries) b → IsStmtSized flat (reg_at d.entries) b
  clocked_stmt = stmt_agrees wid flat agree (reg_at d.entries) (reg_at d.entries) (λ s l e. e)

  readable_now : (dn : Done) (s at w : ℕ) → 1 ≤ w → at + w ≤ flat s → MayBe (inside f) s at w
  readable_now dn s at w a b = ap₂ (λ p q. p && q) (lt-ltb 0 w (let l : 0 < w = omega (arith, a) in l)) (le-leb (at + w) (flat s) b)

  clocked_sound : (p : ℕ × Stmt) → IsClockedIn d.entries p → ((s i : ℕ) → assigns p.1 s ≡ true → is_register d s ≡ true) → IsSoundClocked f p.1
  clocked_sound p c m =
      let b = clocked_stmt p.1 c.1 in
      record {
        fits = stmt_fits flat (reg_at d.entries) (λ s. false) (λ dn. MayBe (inside f)) (λ dn s at w a b g. readable_now dn s at w a b) (λ x i. true) p.1 b (λ s i e. absurd (search (rules, e)));
        registers = λ s e.
            let t = assigned_is flat (reg_at d.entries) p.1 b s e in
            varies s t.1 ∙ ap (λ v. v || top_at signals s) (m s 0 e);
      }

  pub all_clocked : All (λ (p : ℕ × Stmt). IsSoundClocked f p.1) d.clocked
  all_clocked =
      let m = among (λ (p : ℕ × Stmt) (s i : ℕ). assigns p.1 s) d.clocked in
      all_on (λ (p : ℕ × Stmt). IsClockedIn d.entries p × ((s i : ℕ) → assigns p.1 s ≡ true → is_register d s ≡ true)) (λ (p : ℕ × Stmt). IsSoundClocked f p.1) d.clocked (λ p k. clocked_sound p k.0 k.1)
      (all_and (IsClockedIn d.entries) (λ (p : ℕ × Stmt). (s i : ℕ) → assigns p.1 s ≡ true → is_register d s ≡ true) d.clocked h.clocked m)

  -- ---- assignments

  not_registered : (s i : ℕ) → i < flat s → 1 ≤ times_assigned flat s i f.assigns → is_register d s ≡ false
  not_registered s i l t = go (is_register d s) refl
    where
      go : (b : Bool) → is_register d s ≡ b → b ≡ false
      go false e = refl
      go true e = let r = clocked_counts f s (registered d.clocked s e) in let n = few_drivers f d.resets u ok s i l in absurd (omega (arith, r, n, t))

  not_top : (t : Target) (s i : ℕ) → IsTargetSized flat (drivable_at d.entries) t → 1 ≤ times_in flat s i t → (top_at d.entries s ≡ false) × (reg_at d.entries s ≡ false)
  not_top t s i k n = go (drivable_at d.entries s) refl
    where
      negated : (b : Bool) → not b ≡ true → b ≡ false
      negated false e = refl
      negated true e = absurd (search (rules, e))

      go : (b : Bool) → drivable_at d.entries s ≡ b → (top_at d.entries s ≡ false) × (reg_at d.entries s ≡ false)
      go true e = let p = and_parts (not (top_at d.entries s)) (not (reg_at d.entries s)) e in (negated (top_at d.entries s) p.0, negated (reg_at d.entries s) p.1)
      go false e = let z = never_timed flat (drivable_at d.entries) flat s i e t k in absurd (omega (arith, z, n))

  -- what drives a bit of a signal that isn't variable
  module _ (may : ℕ → Bool) where
    abbrev Drives : Target → Type 0
    Drives t = (s i : ℕ) → i < flat s → 1 ≤ times_in flat s i t → is_variable f s ≡ false

    none_left : (o p : Option ℕ) → option_or o p ≡ None → (o ≡ None) × (p ≡ None)
    none_left None p e = (refl, e)
    none_left (Some s) p e = absurd (search (rules, e))

    at_first : (at w : ℕ) → 1 ≤ w → is_within at w at ≡ true
    at_first at w l = ap₂ (λ p q. not p && q) (go (nat_lt at at) refl) (lt-ltb at (at + w) (let k : at < at + w = omega (arith, l) in k))
      where
        go : (b : Bool) → nat_lt at at ≡ b → b ≡ false
        go false e = refl
        go true e = let k = ltb-true at at e in absurd (omega arith)

    one_of : (b c : Bool) → b ≡ true → c ≡ true → 1 ≤ once (b && c)
    one_of true true h k = let l : 1 ≤ 1 = omega arith in l
    one_of true false h k = absurd (search (rules, k))
    one_of false c h k = absurd (search (rules, h))

    mutual
      drives_wires : (t : Target) → IsTargetSized flat may t → first_pick t ≡ None → Drives t → DrivesWires f t
      drives_wires (Whole s) k n g = (g s 0 (let l = k.1 in let m : 0 < flat s = omega arith in m) (one_of (s == s) (is_within 0 (flat s) 0) (eq-eqb s s refl) (at_first 0 (flat s) k.1)), k.1)
      drives_wires (Part s at w) k n g =
          let a = k.1 in let b = k.2 in
          (g s at (let m : at < flat s = omega arith in m) (one_of (s == s) (is_within at w at) (eq-eqb s s refl) (at_first at w k.1)), k.1, k.2)
      drives_wires (Pick s e) k n g = absurd (search (rules, n))
      drives_wires (Group ts) k n g = all_drive_wires ts k.2 n g

      all_drive_wires : (ts : Targets) → AreTargetsSized flat may ts → first_pick_in ts ≡ None → ((s i : ℕ) → i < flat s → 1 ≤ all_times_in flat s i ts → is_variable f s ≡ false) → AllDriveWires f ts
      all_drive_wires no_targets k n g = tt
      all_drive_wires (target t ts) k n g =
          let p = none_left (first_pick t) (first_pick_in ts) n in (
            drives_wires t k.0 p.0 (λ s i l m. g s i l (let q : 1 ≤ times_in flat s i t + all_times_in flat s i ts = omega (arith, m) in q)),
            all_drive_wires ts k.1 p.1 (λ s i l m. g s i l (let q : 1 ≤ times_in flat s i t + all_times_in flat s i ts = omega (arith, m) in q)),
          )

  assign_sound : (a : Target × Expr) → IsAssignIn d.entries a → ((s i : ℕ) → times_in flat s i a.0 ≤ times_assigned flat s i d.assigns) → IsSoundAssign f a
  assign_sound a k m =
      let t = target_agrees wid flat agree (drivable_at d.entries) (drivable_at d.entries) (λ s l e. e) a.0 k.0 in
      let v = expr_agrees wid flat agree a.1 k.2 in (
        fits flat (MayBe (inside f)) (λ s i. true) (λ s at w l n g. readable_now none s at w l n) a.1 v (λ s i e. refl),
        drives_wires (drivable_at d.entries) a.0 t k.1 (λ s i l n.
            let q = m s i in
            let y : 1 ≤ times_assigned flat s i d.assigns = omega (arith, n, q) in
            let b = times_both flat s i d.assigns constants in
            let z : 1 ≤ times_assigned flat s i f.assigns = omega (arith, y, b) in
            let inside = driven_top named d s (assigned_driven d s (is_assigned flat s i d.assigns y)) ∙ (not_top a.0 s i t n).0 in
            varies s (let x : 1 ≤ flat s = omega (arith, l) in x) ∙ both_false (is_register d s) (top_at signals s) (not_registered s i l z) inside),
      )

  own_assigned : All (IsSoundAssign f) d.assigns
  own_assigned =
      let m = all_swap (λ (j : ℕ × ℕ) (a : Target × Expr). times_in flat j.0 j.1 a.0 ≤ times_assigned flat j.0 j.1 d.assigns) d.assigns (λ j. timed flat j.0 j.1 d.assigns) in
      all_on (λ (a : Target × Expr). IsAssignIn d.entries a × ((j : ℕ × ℕ) → times_in flat j.0 j.1 a.0 ≤ times_assigned flat j.0 j.1 d.assigns)) (IsSoundAssign f) d.assigns (λ a k. assign_sound a k.0 (λ s i. k.1 (s, i)))
      (all_and (IsAssignIn d.entries) (λ (a : Target × Expr). (j : ℕ × ℕ) → times_in flat j.0 j.1 a.0 ≤ times_assigned flat j.0 j.1 d.assigns) d.assigns h.assigns m)

  -- what no process assigns is no register
  constant_sound : (s t v : ℕ) → 0 + s ≡ t → is_processed freed t ≡ false → top_at signals s ≡ false → 1 ≤ width_at signals s → IsSoundAssign f (Whole t, Number (width_at signals s) v)
  constant_sound s t v i p o l =
      let z : s ≡ t = omega (arith, i) in
      let m = subst (λ n. 1 ≤ flat n) z (subst (λ w. 1 ≤ w) (sym (same s ∙ sym (free_width named d s))) l) in
      let q = or_parts (list_any (λ (b : Stmt). assigns b t) d.combs) _ p in
      let r = or_parts (list_any (λ (b : Option ℕ × Stmt). assigns b.1 t) d.resets) (is_register d t) q.1 in
      (tt, (varies t m ∙ both_false (is_register d t) (top_at signals t) r.1 (subst (λ n. top_at signals n ≡ false) z o), m))

  all_assigned : All (IsSoundAssign f) f.assigns
  all_assigned = All-append (IsSoundAssign f) d.assigns constants own_assigned
      (constants_hold (IsSoundAssign f) freed 0 signals (λ s t v i p o l k. constant_sound s t v i p o l))

  -- nothing but processes drives what is declared as a register and processes assign
  none_assigned : (s i : ℕ) → reg_at d.entries s ≡ true → (xs : List (Target × Expr)) → All (IsAssignIn d.entries) xs → times_assigned flat s i xs ≡ 0
  none_assigned s i r [] k = refl
  none_assigned s i r (a ∷ xs) k =
      let t = target_agrees wid flat agree (drivable_at d.entries) (drivable_at d.entries) (λ s l e. e) a.0 (All-head (IsAssignIn d.entries) a xs k).0 in
      let z = never_timed flat (drivable_at d.entries) flat s i (ap (λ b. not (top_at d.entries s) && not b) r ∙ never (top_at d.entries s)) a.0 t in
      let y = none_assigned s i r xs (All-tail (IsAssignIn d.entries) a xs k) in omega arith
    where
      never : (b : Bool) → (not b && false) ≡ false
      never true = refl
      never false = refl

  -- ---- processes of wires

  record IsAmong (b : Stmt) : Type 0 where
    pub counts : (s : ℕ) → assigns b s ≡ true → 1 ≤ assigned_by d.combs s
    pub assigned : (s i : ℕ) → assigns b s ≡ true → list_any (λ c. assigns c s) d.combs ≡ true
    pub reads : (s i : ℕ) → stmt_reads flat b s i ≡ true → list_any (λ c. stmt_reads flat c s i) d.combs ≡ true
    pub alone : (s i : ℕ) → assigned_by d.combs s ≤ 1 → 1 ≤ times_processed flat s i d.combs → assigns b s ≡ true → may_assign flat b s i ≡ true

  module _ (b : Stmt) (c : IsCombIn d.entries b) (m : IsAmong b) where
    body : IsStmtSized flat (reg_at d.entries) b
    body = clocked_stmt b c.0

    no_latch_flat : (s i : ℕ) → is_latch flat b s i ≡ false
    no_latch_flat = no_latch_on wid flat agree (reg_at d.entries) b c.0 c.1

    comb_unregistered : (s : ℕ) → assigns b s ≡ true → is_register d s ≡ false
    comb_unregistered s e = go (is_register d s) refl
      where
        go : (v : Bool) → is_register d s ≡ v → v ≡ false
        go false k = refl
        go true k =
            let t = assigned_is flat (reg_at d.entries) b body s e in
            let r = clocked_counts f s (registered d.clocked s k) in let n = m.counts s e in let p = few_processes f d.resets u ok s t.1 in absurd (omega (arith, r, n, p))

    comb_wires : (s : ℕ) → assigns b s ≡ true → is_variable f s ≡ false
    comb_wires s e =
        let t = assigned_is flat (reg_at d.entries) b body s e in
        let inside = driven_top named d s (processed_driven d s (m.assigned s 0 e)) ∙ reg_no_top d.entries h.entries s t.0 in
        varies s t.1 ∙ both_false (is_register d s) (top_at signals s) (comb_unregistered s e) inside

    comb_covered : (s i : ℕ) → i < flat s → may_assign flat b s i ≡ true → surely flat b (λ x j. false) s i ≡ true
    comb_covered s i l e =
        let n : (not (surely flat b none s i) || early flat b none s i) ≡ false = sym (ap (λ v. v && (not (surely flat b none s i) || early flat b none s i)) e) ∙ no_latch_flat s i in
        not_true (surely flat b none s i) (or_parts (not (surely flat b none s i)) (early flat b none s i) n).0

    -- a bit that is read has a driver, here the process itself
    driven_itself : (s i : ℕ) → assigns b s ≡ true → i < flat s → stmt_reads flat b s i ≡ true → may_assign flat b s i ≡ true
    driven_itself s i e l r = go (slice_get f.signals s) refl
      where
        wire : is_variable f s ≡ false
        wire = comb_wires s e

        some : (n : ℕ) → (n == 0) ≡ false → 1 ≤ n
        some zero k = absurd (search (rules, k))
        some (suc n) k = let x : 1 ≤ suc n = omega arith in x

        holds : (a b c : Bool) → (not a && b && c) ≡ false → a ≡ false → b ≡ true → c ≡ false
        holds true b c k x y = absurd (search (rules, x))
        holds false true c k x y = k
        holds false false c k x y = absurd (search (rules, y))

        read : is_read f s i ≡ true
        read = read_among _ (list_any (λ c. stmt_reads flat c s i) (d.combs ++ bodies f)) _ (any_front (λ c. stmt_reads flat c s i) d.combs (bodies f) (m.reads s i r))
          where
            read_among : (x y z : Bool) → y ≡ true → (x || y || z) ≡ true
            read_among true y z k = refl
            read_among false true z k = refl
            read_among false false z k = absurd (search (rules, k))

        go : (o : Option Signal) → slice_get f.signals s ≡ o → may_assign flat b s i ≡ true
        go None k = absurd (omega (arith, (let z : flat s ≡ 0 = (rw k refl) in z), l))
        go (Some x) k =
            let w : flat s ≡ x.width = (rw k refl) in
            let v : kind_is_variable x.kind ≡ false = (rw k at wire) in
            let n = not_undriven f d.resets u ok s i x k (subst (λ y. i < y) w l) in
            let a = some (all_drivers f s i) (holds (is_from_outside x.kind) (is_read f s i) (all_drivers f s i == 0) n (not_outside x.kind v) read) in
            let t = assigned_is flat (reg_at d.entries) b body s e in
            let p = few_processes f d.resets u ok s t.1 in
            let z = unclocked_counts f s (unregistered d.clocked s (comb_unregistered s e)) in
            let y = none_assigned s i t.0 d.assigns h.assigns in
            let c = none_constant flat s i freed 0 signals (true_left (list_any (λ (c : Stmt). assigns c s) d.combs) _ (m.assigned s 0 e)) in
            let o = times_both flat s i d.assigns constants in
            m.alone s i (let q : assigned_by d.combs s ≤ 1 = omega (arith, p) in q) (let q : 1 ≤ times_processed flat s i d.combs = omega (arith, a, z, y, c, o) in q) e

    none_early : (s i : ℕ) → assigns b s ≡ true → early flat b none s i ≡ false
    none_early s i e = go (early flat b none s i) refl
      where
        go : (v : Bool) → early flat b none s i ≡ v → v ≡ false
        go false k = refl
        go true k =
            let r = early_read flat b none s i k in
            let a = driven_itself s i e (stmt_reads_in flat (reg_at d.entries) b body s i r) r in
            let n : (not (surely flat b none s i) || early flat b none s i) ≡ false = sym (ap (λ v. v && (not (surely flat b none s i) || early flat b none s i)) a) ∙ no_latch_flat s i in
            sym k ∙ (or_parts (not (surely flat b none s i)) (early flat b none s i) n).1

    readable_done : (dn : Done) (s at w : ℕ) → 1 ≤ w → at + w ≤ flat s → AllIn (good_bits flat (reg_at d.entries) (assigns b) (MayRead flat (inside f) (assigns b)) dn) (span s at w) → MayRead flat (inside f) (assigns b) dn s at w
    readable_done dn s at w l n g = (λ e. readable_now dn s at w l n, λ e. (n, λ i k. done i (g s (at + i) (in_span i k)) e))
      where
        done : (i : ℕ) → (not (assigns b s) || dn s (at + i)) ≡ true → assigns b s ≡ true → dn s (at + i) ≡ true
        done i k e = sym (ap (λ v. not v || dn s (at + i)) e) ∙ k

        in_span : (i : ℕ) → i < w → span s at w s (at + i) ≡ true
        in_span i k = ap₂ (λ p q. p && q) (eq-eqb s s refl) (ap₂ (λ p q. not p && q) (go (nat_lt (at + i) at) refl) (lt-ltb (at + i) (at + w) (let x : at + i < at + w = omega (arith, k) in x)))
          where
            go : (v : Bool) → nat_lt (at + i) at ≡ v → v ≡ false
            go false e = refl
            go true e = let x = ltb-true (at + i) at e in absurd (omega arith)

    comb_sound : IsSoundComb f b
    comb_sound = record {
      fits = stmt_fits flat (reg_at d.entries) (assigns b) (MayRead flat (inside f) (assigns b)) readable_done (λ x i. false) b body none_early;
      wires = comb_wires;
      no_latch = comb_covered;
    }

  all_among : All IsAmong d.combs
  all_among k b l = record {
    counts = counted d.combs k b l;
    assigned = among (λ (c : Stmt) (s i : ℕ). assigns c s) d.combs k b l;
    reads = among (λ (c : Stmt) (s i : ℕ). stmt_reads flat c s i) d.combs k b l;
    alone = λ s i p q. only flat s i d.combs p q k b l;
  }

  all_processed : All (IsSoundComb f) d.combs
  all_processed = all_on (λ (b : Stmt). IsCombIn d.entries b × IsAmong b) (IsSoundComb f) d.combs (λ b k. comb_sound b k.0 k.1) (all_and (IsCombIn d.entries) IsAmong d.combs h.combs all_among)

  all_outputs : All (λ s. 1 ≤ flat s) d.outputs
  all_outputs = all_on (λ s. 1 ≤ wid s) (λ s. 1 ≤ flat s) d.outputs (λ s k. subst (λ w. 1 ≤ w) (sym (same s)) k) h.outputs

  pub sound : IsSound f
  sound = record {
    sized = λ s. subst (λ w. w ≤ 64) (sym (same s)) (words_of d.entries h.entries s);
    assigned = all_assigned;
    processed = all_processed;
    clocked = all_clocked;
    clocks = all_on (IsClockedIn d.entries) (λ (p : ℕ × Stmt). 1 ≤ flat p.0) d.clocked (λ p k. let e = same p.0 ∙ k.0 in let l : 1 ≤ flat p.0 = omega arith in l) h.clocked;
    outputs = all_outputs;
    one_driver = one_driver f d.resets u ok;
  }

  -- ---- registers

  any_assigned : (s : ℕ) (ps : List (ℕ × Stmt)) → All (IsClockedIn d.entries) ps → list_any (λ (p : ℕ × Stmt). assigns p.1 s) ps ≡ true → 1 ≤ wid s
  any_assigned s [] k e = absurd (search (rules, e))
  any_assigned s (p ∷ ps) k e =
      either (assigns p.1 s) (list_any (λ (q : ℕ × Stmt). assigns q.1 s) ps) e (λ a. (assigned_is wid (reg_at d.entries) p.1 (All-head (IsClockedIn d.entries) p ps k).1 s a).1)
      (any_assigned s ps (All-tail (IsClockedIn d.entries) p ps k))

  register_size : (s : ℕ) → kind_in f.signals s ≡ Register → 1 ≤ flat s
  register_size s e = subst (λ w. 1 ≤ w) (sym (same s ∙ sym (free_width named d s))) (has_bits signals s (register_kind (with_constants freed) 0 signals s e).0)

  registers_assigned : (s : ℕ) → kind_in f.signals s ≡ Register → 1 ≤ assigned_by (bodies f) s
  registers_assigned s e =
      let r = (register_kind (with_constants freed) 0 signals s e).1 in
      registered d.clocked s (subst (λ n. is_register d n ≡ true) (let z : 0 + s ≡ s = omega arith in z) r)

  others_none : (s : ℕ) → kind_in f.signals s ≢ Register → assigned_by (bodies f) s ≡ 0
  others_none s n = unregistered d.clocked s (go (is_register d s) refl)
    where
      go : (b : Bool) → is_register d s ≡ b → b ≡ false
      go false e = refl
      go true e =
          let l = declared s (any_assigned s d.clocked h.clocked e) in
          absurd (n (kind_register (with_constants freed) 0 signals s l (subst (λ k. is_register d k ≡ true) (let z : s ≡ 0 + s = omega arith in z) e)))

  registers_clock : (s : ℕ) → kind_in f.signals s ≡ Register → All (λ (p : ℕ × Stmt). All (λ (q : ℕ × Stmt). assigns p.1 s ≡ true → assigns q.1 s ≡ true → p.0 ≡ q.0) d.clocked) d.clocked
  registers_clock s e =
      let one = one_clock f d.resets u ok s (register_size s e) in
      all_on (HasClock s one.0) (λ (p : ℕ × Stmt). All (λ (q : ℕ × Stmt). assigns p.1 s ≡ true → assigns q.1 s ≡ true → p.0 ≡ q.0) d.clocked) d.clocked
      (λ p h. all_on (HasClock s one.0) (λ (q : ℕ × Stmt). assigns p.1 s ≡ true → assigns q.1 s ≡ true → p.0 ≡ q.0) d.clocked (λ q k a b. sym (h a) ∙ k b) one.1) one.1

  pub well_clocked : IsWellClocked f
  well_clocked = record {
    registers = registers_assigned;
    others = others_none;
    bits = few_bodies f d.resets u ok;
    one_clock = registers_clock;
    clocks = all_on (IsClockedIn d.entries) (λ (p : ℕ × Stmt). flat p.0 ≡ 1) d.clocked (λ p k. same p.0 ∙ k.0) h.clocked;
  }

-- ---- the laws

pub sound_law : SoundLaw
sound_law modules formed top resets named f e =
    let r = reached modules formed top resets named f e in
    let a = accepted named r.0 f r.2 in
    subst IsSound a.2 (sound named r.0 r.1 a.0 a.1)

pub well_clocked_law : WellClockedLaw
well_clocked_law modules formed top resets named f e =
    let r = reached modules formed top resets named f e in
    let a = accepted named r.0 f r.2 in
    subst IsWellClocked a.2 (well_clocked named r.0 r.1 a.0 a.1)

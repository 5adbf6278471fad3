-- Clocked processes that assign one signal: which bits they may assign, and their clock.
use Rattle.std.proofs.Common.{◌≡◌, ℕ, ◌≤◌, Bool, true, false, cond, not, ◌&&◌, ◌||◌, ◌==◌, List, [], ◌∷◌, map, Option, None, refl, sym, ap, subst, ◌∙◌, arith, rules, eqb-true, le_refl}
use Rattle.std.specs.Prelude.{All}
use Rattle.std.proofs.lemmas.Bool.{or_parts}
use Rattle.std.proofs.lemmas.List.Elements.{All-cons, All-nil}
use Rattle.flat_meaning.specs.Flat.{Stmt, Null, assigns}
use Rattle.flat_meaning.specs.Assigned.{may_assign}
use Rattle.flat_meaning.specs.Design.{once, times_processed}
use Rattle.flat_unfolding.specs.Drivers.{Process, processes, drives, times_driven, is_same_signal, have_same_edges, is_driven_apart, have_other_edges}

-- what may be assigned behind the reset may be assigned by the process
pub fewer_bodies : (wid : ℕ → ℕ) (s i : ℕ) (ps : List (ℕ × Stmt)) (rs : List (Option ℕ × Stmt)) → times_processed wid s i (map (λ (p : ℕ × Stmt). p.1) ps) ≤ times_driven wid (processes ps rs) s i
fewer_bodies wid s i [] rs = let l : 0 ≤ 0 = omega arith in l
fewer_bodies wid s i (p ∷ ps) rs = go rs (fewer_bodies wid s i ps)
  where
    either_way : (a b : Bool) → once b ≤ once (a || b)
    either_way false b = le_refl (once b)
    either_way true true = let l : 1 ≤ 1 = omega arith in l
    either_way true false = let l : 0 ≤ 1 = omega arith in l

    go : (rs : List (Option ℕ × Stmt)) → ((rs : List (Option ℕ × Stmt)) → times_processed wid s i (map (λ (p : ℕ × Stmt). p.1) ps) ≤ times_driven wid (processes ps rs) s i)
        → times_processed wid s i (map (λ (p : ℕ × Stmt). p.1) (p ∷ ps)) ≤ times_driven wid (processes (p ∷ ps) rs) s i
    go [] rest = let l = rest [] in omega arith
    go (r ∷ rs) rest = let l = rest rs in let m = either_way (may_assign wid r.1 s i) (may_assign wid p.1 s i) in omega arith

-- ---- processes with the same edges have one clock

abbrev pub HasClock : ℕ → ℕ → ℕ × Stmt → Type 0
HasClock s c q = assigns q.1 s ≡ true → c ≡ q.0

module _ (s : ℕ) where
  not_apart : (p : Process) (q : Process) → (drives q s && not (have_same_edges p q)) ≡ false → assigns q.body s ≡ true → p.clock ≡ q.clock
  not_apart p q e a = eqb-true p.clock q.clock (left (p.clock == q.clock) (is_same_signal p.edge q.edge) (same (have_same_edges p q)
      (sym (ap (λ b. b && not (have_same_edges p q)) (driven (assigns q.branch s) (assigns q.body s) a)) ∙ e)))
    where
      driven : (b c : Bool) → c ≡ true → (b || c) ≡ true
      driven true c k = refl
      driven false c k = k

      same : (b : Bool) → not b ≡ false → b ≡ true
      same true k = refl
      same false k = absurd (search (rules, k))

      left : (b c : Bool) → (b && c) ≡ true → b ≡ true
      left true c k = refl
      left false c k = k

  none_apart : (p : Process) (qs : List (ℕ × Stmt)) (rs : List (Option ℕ × Stmt)) → is_driven_apart p (processes qs rs) s ≡ false → All (HasClock s p.clock) qs
  none_apart p [] rs e = All-nil (HasClock s p.clock)
  none_apart p (q ∷ qs) [] e =
      let one : Process = record { clock = q.0; edge = None; branch = Null; body = q.1 } in
      let h = or_parts (drives one s && not (have_same_edges p one)) (is_driven_apart p (processes qs []) s) e in
      All-cons (HasClock s p.clock) q qs (not_apart p one h.0) (none_apart p qs [] h.1)
  none_apart p (q ∷ qs) (r ∷ rs) e =
      let one : Process = record { clock = q.0; edge = r.0; branch = r.1; body = q.1 } in
      let h = or_parts (drives one s && not (have_same_edges p one)) (is_driven_apart p (processes qs rs) s) e in
      All-cons (HasClock s p.clock) q qs (not_apart p one h.0) (none_apart p qs rs h.1)

  abbrev pub OneClock : List (ℕ × Stmt) → Type 0
  OneClock ps = (c : ℕ) × All (HasClock s c) ps

  first_clock : (p : ℕ × Stmt) (ps : List (ℕ × Stmt)) (rs : List (Option ℕ × Stmt)) (one : Process) → one.clock ≡ p.0 → one.body ≡ p.1
      → cond (drives one s) (is_driven_apart one (processes ps rs) s) (have_other_edges (processes ps rs) s) ≡ false
      → (have_other_edges (processes ps rs) s ≡ false → OneClock ps) → (b : Bool) → drives one s ≡ b → OneClock (p ∷ ps)
  first_clock p ps rs one c e h later true k =
      let a = sym (ap (λ b. cond b (is_driven_apart one (processes ps rs) s) (have_other_edges (processes ps rs) s)) k) ∙ h in
      (p.0, All-cons (HasClock s p.0) p ps (λ z. refl) (subst (λ n. All (HasClock s n) ps) c (none_apart one ps rs a)))
  first_clock p ps rs one c e h later false k =
      let a = sym (ap (λ b. cond b (is_driven_apart one (processes ps rs) s) (have_other_edges (processes ps rs) s)) k) ∙ h in
      let rest = later a in
      (rest.0, All-cons (HasClock s rest.0) p ps (λ z. absurd (no (assigns one.branch s) (assigns one.body s) k (ap (λ (x : Stmt). assigns x s) e ∙ z))) rest.1)
    where
      no : (b c : Bool) → (b || c) ≡ false → c ≡ true → ⊥
      no true c k a = absurd (search (rules, k))
      no false c k a = absurd (search (rules, k, a))

  pub clock_of_all : (ps : List (ℕ × Stmt)) (rs : List (Option ℕ × Stmt)) → have_other_edges (processes ps rs) s ≡ false → OneClock ps
  clock_of_all [] rs e = (0, All-nil (HasClock s 0))
  clock_of_all (p ∷ ps) [] e =
      let one : Process = record { clock = p.0; edge = None; branch = Null; body = p.1 } in first_clock p ps [] one refl refl e (clock_of_all ps []) (drives one s) refl
  clock_of_all (p ∷ ps) (r ∷ rs) e =
      let one : Process = record { clock = p.0; edge = r.0; branch = r.1; body = p.1 } in first_clock p ps rs one refl refl e (clock_of_all ps rs) (drives one s) refl

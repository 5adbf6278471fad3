-- Clocks are found by their names, which are those of signals.
use Rattle.std.proofs.Common.{◌≡◌, ◌≢◌, ◌∙◌, ℕ, zero, suc, ◌+◌, Bool, true, false, cond, not, List, [], ◌∷◌, ◌++◌, map, Option, Some, None, option_map, is_some, Result, Ok, refl, sym, ap, subst, arith, rules, bytes_eq}
use Rattle.std.specs.Prelude.{AllPairs, find, slice_get, if◌then◌else◌}
use Rattle.std.specs.List.{AllByRecursion, position_from}
use Rattle.std.proofs.lemmas.Option.{get_or_from_slice_get, slice_get_within}
use Rattle.std.proofs.lemmas.Slice.Eq.{bytes_eq-Decides}
use Rattle.cdc_base.specs.declared.fault.Fault.{Fault}
use Rattle.cdc_base.specs.declared.signal.Signal.{Signal}
use Rattle.clock_constraints.specs.declared.ClockPin.{ClockPin}
use Rattle.clock_constraints.specs.declared.Constraints.{Constraints}
use Rattle.clock_constraints.specs.Refusals.{Text, broken, unless}
use Rattle.domains.specs.declared.port.Port.{Port}
use Rattle.domains.specs.declared.port.Role.{Role}
use Rattle.domains.specs.declared.port.Role.TheVariants.{Pin}
use Rattle.domains.specs.Assignment.{broken_port, or_then, port_roles}
use Rattle.domains.specs.Clocks.{Roles}
use Rattle.domains.specs.Ports.{clock_roles, input_roles, is_found, lost, reset_roles, roles, signal_port, signal_ports, signal_roles, static_roles, wide}
use Rattle.domains.specs.Tables.{named}

-- ---- names of clocks that differ

apart : (k : ClockPin) (ks : List ClockPin) → AllPairs (λ (a : ClockPin) (b : ClockPin). a.name ≢ b.name) (k ∷ ks) → (c : ℕ) (p : ClockPin) → slice_get ks c ≡ Some p → k.name ≢ p.name
apart k ks h c p e =
    let l = slice_get_within ks c p e in
    subst (λ (q : ClockPin). k.name ≢ q.name) (get_or_from_slice_get ks c p k e) (h 0 (suc c) k (omega arith) (omega (arith, l)))

bytes-same : (t u : Text) → t ≡ u → bytes_eq t u ≡ true
bytes-same t u e = search (rules, bytes_eq-Decides, e)

bytes-differ : (t u : Text) → t ≢ u → bytes_eq t u ≡ false
bytes-differ t u ne = go (bytes_eq t u) refl
  where
    same : bytes_eq t u ≡ true → t ≡ u
    same e = search (rules, bytes_eq-Decides)

    go : (v : Bool) → bytes_eq t u ≡ v → bytes_eq t u ≡ false
    go true e = absurd (ne (same e))
    go false e = e

pub clock-found : (k : ℕ) (ks : List ClockPin) (c : ℕ) (p : ClockPin) → AllPairs (λ (a : ClockPin) (b : ClockPin). a.name ≢ b.name) ks → slice_get ks c ≡ Some p
    → position_from (λ (q : ClockPin). bytes_eq p.name q.name) k ks ≡ Some (k + c)
clock-found k [] c p h e = cc
clock-found k (q ∷ ks) zero p h e =
    let same : q ≡ p = cc in
    ap (λ v. cond v (Some k) (position_from (λ (r : ClockPin). bytes_eq p.name r.name) (k + 1) ks)) (bytes-same p.name q.name (sym (ap (λ (r : ClockPin). r.name) same)))
    ∙ ap Some (let f : k ≡ k + 0 = omega arith in f)
clock-found k (q ∷ ks) (suc c) p h e =
    ap (λ v. cond v (Some k) (position_from (λ (r : ClockPin). bytes_eq p.name r.name) (k + 1) ks)) (bytes-differ p.name q.name (λ f. apart q ks h c p e (sym f)))
    ∙ clock-found (k + 1) ks c p (λ i j d l m. h (suc i) (suc j) d (omega (arith, l)) (omega (arith, m))) e ∙ ap Some (let f : (k + 1) + c ≡ k + suc c = omega arith in f)

-- ---- clocks are signals

none-left : {A : Type 0} (p : A → Bool) (xs ys : List A) → find p (xs ++ ys) ≡ None → find p xs ≡ None
none-left p [] ys e = refl
none-left p (x ∷ xs) ys e = go (p x) e (none-left p xs ys)
  where
    go : (v : Bool) → cond v (Some x) (find p (xs ++ ys)) ≡ None → (find p (xs ++ ys) ≡ None → find p xs ≡ None) → cond v (Some x) (find p xs) ≡ None
    go true f ih = cc
    go false f ih = ih f

none-mapped : {A B : Type 0} (f : A → B) (o : Option A) → option_map f o ≡ None → o ≡ None
none-mapped f None e = refl
none-mapped f (Some x) e = cc

none-first : (a b : Option Fault) → or_then a b ≡ None → a ≡ None
none-first None b e = refl
none-first (Some f) b e = cc

passed : {A : Type 0} (o : Option Fault) (r : Result A Fault) (x : A) → unless o r ≡ Ok x → o ≡ None
passed None r x e = refl
passed (Some f) r x e = cc

pins-there : (ports : Text → Option Port) (k : ℕ) (cs : List ClockPin) → find (λ (r : Text × Role). not (is_found (ports r.0) r.1)) (clock_roles k cs) ≡ None
    → AllByRecursion (λ (c : ClockPin). is_some (ports c.name) ≡ true) cs
pins-there ports k [] e = tt
pins-there ports k (c ∷ cs) e = go (ports c.name) refl e (pins-there ports (k + 1) cs)
  where
    lost-later : Option (Text × Role)
    lost-later = find (λ (r : Text × Role). not (is_found (ports r.0) r.1)) (clock_roles (k + 1) cs)

    rest : (v : Bool) → cond (not v) (Some (c.name, Pin k)) lost-later ≡ None → lost-later ≡ None
    rest true h = h
    rest false h = cc

    go : (o : Option Port) → ports c.name ≡ o → cond (not (is_found o (Pin k))) (Some (c.name, Pin k)) lost-later ≡ None
        → (lost-later ≡ None → AllByRecursion (λ (d : ClockPin). is_some (ports d.name) ≡ true) cs) → AllByRecursion (λ (d : ClockPin). is_some (ports d.name) ≡ true) (c ∷ cs)
    go None f g ih = cc
    go (Some p) f g ih = (ap is_some f, ih (rest (is_found (Some p) (Pin k)) g))

-- what is found under a name is of a signal with that name
named-signal : (ss : List Signal) (t : Text) → is_some (named (signal_ports ss) t) ≡ true → (i : ℕ) × (s : Signal) × (slice_get ss i ≡ Some s) × (t ≡ s.name)
named-signal [] t e = cc
named-signal (s ∷ ss) t e = go (bytes_eq t s.name) refl e (named-signal ss t)
  where
    same : bytes_eq t s.name ≡ true → t ≡ s.name
    same f = search (rules, bytes_eq-Decides)

    go : (v : Bool) → bytes_eq t s.name ≡ v → is_some (if v then Some (signal_port s) else named (signal_ports ss) t) ≡ true
        → (is_some (named (signal_ports ss) t) ≡ true → (i : ℕ) × (r : Signal) × (slice_get ss i ≡ Some r) × (t ≡ r.name))
        → (i : ℕ) × (r : Signal) × (slice_get (s ∷ ss) i ≡ Some r) × (t ≡ r.name)
    go true f g ih = (0, s, refl, same f)
    go false f g ih = let p = ih g in (suc p.0, p.1, p.2, p.3)

of-each : {A : Type 0} (P : A → Type 0) (xs : List A) (i : ℕ) (x : A) → AllByRecursion P xs → slice_get xs i ≡ Some x → P x
of-each P [] i x h e = cc
of-each P (y ∷ ys) zero x h e = let same : y ≡ x = cc in subst P same h.0
of-each P (y ∷ ys) (suc i) x h e = of-each P ys i x h.1 e

-- a clock's name is that of a signal
pub clock-signal : (ss : List Signal) (c : Constraints) (found : Roles) → port_roles ss c ≡ Ok found → (k : ℕ) (p : ClockPin) → slice_get c.clocks k ≡ Some p
    → (i : ℕ) × (s : Signal) × (slice_get ss i ≡ Some s) × (p.name ≡ s.name)
clock-signal ss c found e k p at =
    let ports = named (signal_ports ss) in
    let whole = passed (broken_port ports (roles c) c) (signal_roles (named (roles c)) ss) found e in
    let first = none-first (lost ports (roles c)) (or_then (wide 407 ports (map (λ (k : ClockPin). k.name) c.clocks)) (wide 408 ports (map (λ r. r.name) c.resets))) whole in
    let none = none-mapped (λ (r : Text × Role). broken 403 r.0) (find (λ (r : Text × Role). not (is_found (ports r.0) r.1)) (roles c)) first in
    let test = λ (r : Text × Role). not (is_found (ports r.0) r.1) in
    let a = none-left test ((clock_roles 0 c.clocks ++ input_roles c.inputs) ++ reset_roles c.resets) (static_roles c.statics) none in
    let b = none-left test (clock_roles 0 c.clocks ++ input_roles c.inputs) (reset_roles c.resets) a in
    let d = none-left test (clock_roles 0 c.clocks) (input_roles c.inputs) b in
    named-signal ss p.name (of-each (λ (q : ClockPin). is_some (ports q.name) ≡ true) c.clocks k p (pins-there ports 0 c.clocks d) at)

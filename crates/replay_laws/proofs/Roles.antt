-- An input that is declared as a reset is one that the design doesn't read.
use Rattle.std.proofs.Common.{◌≡◌, ◌≢◌, ◌∙◌, refl, sym, ap, ap₂, ℕ, zero, suc, ◌+◌, Bool, true, false, cond, not, ◌&&◌, ◌==◌, List, [], ◌∷◌, ◌++◌, map, Option, Some, None, is_some, option_map, Result, Ok, Err, ◌⊎◌, inl, inr, bytes_eq, find, slice_get}
use Rattle.std.specs.Prelude.{if◌then◌else◌}
use Rattle.std.specs.Option.{option_map_or}
use Rattle.std.proofs.lemmas.Slice.Eq.{bytes_eq-Decides}
use Rattle.cdc_base.specs.declared.fault.Fault.{Fault}
use Rattle.cdc_base.specs.declared.signal.ResetPin.{ResetPin}
use Rattle.cdc_base.specs.declared.signal.Signal.{Signal}
use Rattle.cdc_base.specs.declared.signal.SigKind.{SigKind}
use Rattle.cdc_base.specs.declared.signal.SigKind.TheVariants.{Input, Register, Wire}
use Rattle.clock_constraints.specs.declared.ClockPin.{ClockPin}
use Rattle.clock_constraints.specs.declared.Constraints.{Constraints}
use Rattle.clock_constraints.specs.declared.InputPin.{InputPin}
use Rattle.clock_constraints.specs.Refusals.{Text, broken, ◌>>=◌, required, unless}
use Rattle.domains.specs.declared.port.Role.{Role}
use Rattle.domains.specs.declared.port.Role.TheVariants.{Pin, Clocked, Reset, Static}
use Rattle.domains.specs.Assignment.{broken_port, or_then, port_roles}
use Rattle.domains.specs.Clocks.{Roles, role_at}
use Rattle.domains.specs.Ports.{clock_roles, input_roles, is_input, is_one, lost, reset_roles, roles, signal_port, signal_ports, signal_role, signal_roles, static_roles, wide}
use Rattle.domains.specs.Tables.{named}
use Rattle.flat_meaning.specs.Design.{Flat}
use Rattle.signal_names.specs.Laws.{AreDifferent, IsNotAmong, names_in}
use Rattle.reset_reads.specs.Laws as unread
use Rattle.reset_reads.specs.Laws.{is_reset_input, is_reset_signal}

same_text : (x y : Text) → bytes_eq x y ≡ true → x ≡ y
same_text x y h = (bytes_eq-Decides x y).0 h

text_same : (x : Text) → bytes_eq x x ≡ true
text_same x = (bytes_eq-Decides x x).1 refl

-- ---- names that are declared

module _ (q : Text) where
  by_either : {V : Type 0} (xs ys : List (Text × V)) (v : V) → named (xs ++ ys) q ≡ Some v → (named xs q ≡ Some v) ⊎ (named ys q ≡ Some v)
  by_either [] ys v e = inr e
  by_either (x ∷ xs) ys v e = go (bytes_eq q x.0) e (by_either xs ys v)
    where
      go : (b : Bool) → (if b then Some x.1 else named (xs ++ ys) q) ≡ Some v → (named (xs ++ ys) q ≡ Some v → (named xs q ≡ Some v) ⊎ (named ys q ≡ Some v))
          → ((if b then Some x.1 else named xs q) ≡ Some v) ⊎ (named ys q ≡ Some v)
      go true e rest = inl e
      go false e rest = rest e

  no_clock : (k : ℕ) (cs : List ClockPin) → named (clock_roles k cs) q ≡ Some Reset → ⊥
  no_clock k [] e = cc
  no_clock k (x ∷ cs) e = go (bytes_eq q x.name) e (no_clock (k + 1) cs)
    where
      go : (b : Bool) → (if b then Some (Pin k) else named (clock_roles (k + 1) cs) q) ≡ Some Reset → (named (clock_roles (k + 1) cs) q ≡ Some Reset → ⊥) → ⊥
      go true e rest = cc
      go false e rest = rest e

  no_input : (is : List InputPin) → named (input_roles is) q ≡ Some Reset → ⊥
  no_input [] e = cc
  no_input (x ∷ is) e = go (bytes_eq q x.name) e (no_input is)
    where
      go : (b : Bool) → (if b then Some (Clocked x.clock) else named (input_roles is) q) ≡ Some Reset → (named (input_roles is) q ≡ Some Reset → ⊥) → ⊥
      go true e rest = cc
      go false e rest = rest e

  no_static : (xs : List Text) → named (static_roles xs) q ≡ Some Reset → ⊥
  no_static [] e = cc
  no_static (x ∷ xs) e = go (bytes_eq q x) e (no_static xs)
    where
      go : (b : Bool) → (if b then Some Static else named (static_roles xs) q) ≡ Some Reset → (named (static_roles xs) q ≡ Some Reset → ⊥) → ⊥
      go true e rest = cc
      go false e rest = rest e

  -- among the resets, and what stands behind them
  abbrev finds : List ResetPin → Bool
  finds rs = is_some (find (λ (r : ResetPin). bytes_eq r.name q) rs)

  reset_found : (rs more : List ResetPin) → named (reset_roles rs) q ≡ Some Reset → finds (rs ++ more) ≡ true
  reset_found [] more e = cc
  reset_found (r ∷ rs) more e = go (bytes_eq q r.name) refl e (reset_found rs more)
    where
      go : (b : Bool) → bytes_eq q r.name ≡ b → (if b then Some Reset else named (reset_roles rs) q) ≡ Some Reset → (named (reset_roles rs) q ≡ Some Reset → finds (rs ++ more) ≡ true)
          → finds (r ∷ rs ++ more) ≡ true
      go true h e rest = ap (λ c. is_some (cond c (Some r) (find (λ (p : ResetPin). bytes_eq p.name q) (rs ++ more)))) (ap (bytes_eq r.name) (same_text q r.name h) ∙ text_same r.name)
      go false h e rest = either (bytes_eq r.name q) (rest e)
        where
          either : (b : Bool) → finds (rs ++ more) ≡ true → is_some (cond b (Some r) (find (λ (p : ResetPin). bytes_eq p.name q) (rs ++ more))) ≡ true
          either true h = refl
          either false h = h

  among_resets : (c : Constraints) → named (roles c) q ≡ Some Reset → named (reset_roles c.resets) q ≡ Some Reset
  among_resets c e = elim (by_either ((clock_roles 0 c.clocks ++ input_roles c.inputs) ++ reset_roles c.resets) (static_roles c.statics) Reset e) [
    | inr s ↦ absurd (no_static c.statics s)
    | inl a ↦ elim (by_either (clock_roles 0 c.clocks ++ input_roles c.inputs) (reset_roles c.resets) Reset a) [
      | inr r ↦ r
      | inl b ↦ elim (by_either (clock_roles 0 c.clocks) (input_roles c.inputs) Reset b) [
        | inl k ↦ absurd (no_clock 0 c.clocks k)
        | inr i ↦ absurd (no_input c.inputs i)
      ]
    ]
  ]

-- the name is one of a list in which all pass a test
passes : (test : Text → Bool) (rs : List ResetPin) (number : ℕ) → option_map (broken number) (find (λ n. not (test n)) (map (λ (r : ResetPin). r.name) rs)) ≡ None
    → (q : Text) → named (reset_roles rs) q ≡ Some Reset → test q ≡ true
passes test [] number h q e = cc
passes test (r ∷ rs) number h q e = go (test r.name) refl h (bytes_eq q r.name) refl e (λ k. passes test rs number k q)
  where
    go : (t : Bool) → test r.name ≡ t → option_map (broken number) (cond (not t) (Some r.name) (find (λ n. not (test n)) (map (λ (p : ResetPin). p.name) rs))) ≡ None
        → (b : Bool) → bytes_eq q r.name ≡ b → (if b then Some Reset else named (reset_roles rs) q) ≡ Some Reset
        → (option_map (broken number) (find (λ n. not (test n)) (map (λ (p : ResetPin). p.name) rs)) ≡ None → named (reset_roles rs) q ≡ Some Reset → test q ≡ true) → test q ≡ true
    go false t h b s e rest = cc
    go true t h true s e rest = ap test (same_text q r.name s) ∙ t
    go true t h false s e rest = rest h e

-- ---- what a signal is declared as

-- a signal with a role is an input, whose name is declared so
pub role_is : (declared : Text → Option Role) (ss : List Signal) (rs : Roles) (sig : ℕ) (role : Role) → signal_roles declared ss ≡ Ok rs → role_at rs sig ≡ Some role
    → (x : Signal) × (slice_get ss sig ≡ Some x) × (is_input x.kind ≡ true) × (declared x.name ≡ Some role)
role_is declared [] rs sig role h e = let none : rs ≡ [] = cc in let gone = sym e ∙ ap (λ (qs : Roles). role_at qs sig) none in absurd (nothing sig gone)
  where
    nothing : (sig : ℕ) → Some role ≡ role_at [] sig → ⊥
    nothing zero f = cc
    nothing (suc n) f = cc
role_is declared (s ∷ ss) rs sig role h e =
    go (signal_role declared s) (signal_roles declared ss) refl refl h sig e (λ (qs : Roles) (j : ℕ) f g. role_is declared ss qs j role f g)
  where
    Found : List Signal → ℕ → Type 0
    Found xs n = (x : Signal) × (slice_get xs n ≡ Some x) × (is_input x.kind ≡ true) × (declared x.name ≡ Some role)

    own : (b : Bool) → is_input s.kind ≡ b → (d : Option Role) → declared s.name ≡ d → (if b then (required 405 s.name d >>= (λ (r : Role). Ok (Some r))) else Ok None) ≡ Ok (Some role)
        → Found (s ∷ ss) 0
    own false k d i f = cc
    own true k None i f = cc
    own true k (Some r) i f = let same : r ≡ role = cc in (s, refl, k, i ∙ ap Some same)

    go : (a : Result (Option Role) Fault) (b : Result Roles Fault) → signal_role declared s ≡ a → signal_roles declared ss ≡ b
        → (a >>= (λ (o : Option Role). b >>= (λ (qs : Roles). Ok (o ∷ qs)))) ≡ Ok rs → (sig : ℕ) → role_at rs sig ≡ Some role
        → ((qs : Roles) (j : ℕ) → signal_roles declared ss ≡ Ok qs → role_at qs j ≡ Some role → Found ss j) → Found (s ∷ ss) sig
    go (Err f) b d k n m e rest = cc
    go (Ok o) (Err f) d k n m e rest = cc
    go (Ok o) (Ok qs) d k n zero e rest =
        let same : rs ≡ o ∷ qs = cc in
        let first : o ≡ Some role = sym (ap (λ (xs : Roles). role_at xs 0) same) ∙ e in
        own (is_input s.kind) refl (declared s.name) refl (d ∙ ap Ok first)
    go (Ok o) (Ok qs) d k n (suc m) e rest = let same : rs ≡ o ∷ qs = cc in rest qs m k (sym (ap (λ (xs : Roles). role_at xs (suc m)) same) ∙ e)

-- a signal is the first of its name where names differ
own_port : (ss : List Signal) (sig : ℕ) (x : Signal) → AreDifferent (map (λ (s : Signal). s.name) ss) → slice_get ss sig ≡ Some x → named (signal_ports ss) x.name ≡ Some (signal_port x)
own_port [] sig x d e = cc
own_port (s ∷ ss) zero x d e =
    let same : s ≡ x = cc in
    ap (λ b. if b then Some (signal_port s) else named (signal_ports ss) x.name) (ap (bytes_eq x.name) (ap (λ (y : Signal). y.name) same) ∙ text_same x.name) ∙ ap (λ (y : Signal). Some (signal_port y)) same
own_port (s ∷ ss) (suc n) x d e = go (bytes_eq x.name s.name) refl (own_port ss n x d.1 e)
  where
    other : (xs : List Signal) (k : ℕ) → IsNotAmong s.name (map (λ (y : Signal). y.name) xs) → slice_get xs k ≡ Some x → s.name ≢ x.name
    other [] k h f = cc
    other (y ∷ xs) zero h f = let same : y ≡ x = cc in λ z. h.0 (z ∙ sym (ap (λ (t : Signal). t.name) same))
    other (y ∷ xs) (suc k) h f = other xs k h.1 f

    go : (b : Bool) → bytes_eq x.name s.name ≡ b → named (signal_ports ss) x.name ≡ Some (signal_port x) → (if b then Some (signal_port s) else named (signal_ports ss) x.name) ≡ Some (signal_port x)
    go true h rest = absurd (other ss n d.0 e (sym (same_text x.name s.name h)))
    go false h rest = rest

none_behind : (a b : Option Fault) → or_then a b ≡ None → (a ≡ None) × (b ≡ None)
none_behind None b e = (refl, e)
none_behind (Some f) b e = cc

input_kind : (k : SigKind) → is_input k ≡ true → unread.is_input k ≡ true
input_kind Input e = refl
input_kind Register e = cc
input_kind Wire e = cc

module _ (f : Flat) (c : Constraints) (rs : Roles) (ports : port_roles f.signals c ≡ Ok rs) where
  read_on : (o : Option Fault) → broken_port (named (signal_ports f.signals)) (roles c) c ≡ o → unless o (signal_roles (named (roles c)) f.signals) ≡ Ok rs
      → (broken_port (named (signal_ports f.signals)) (roles c) c ≡ None) × (signal_roles (named (roles c)) f.signals ≡ Ok rs)
  read_on None e h = (e, h)
  read_on (Some x) e h = cc

  pub declared_roles : signal_roles (named (roles c)) f.signals ≡ Ok rs
  declared_roles = (read_on (broken_port (named (signal_ports f.signals)) (roles c) c) refl ports).1

  -- an input that is declared as a reset has one bit and the name of one
  pub reset_is : AreDifferent (names_in f) → (more : List ResetPin) (sig : ℕ) → role_at rs sig ≡ Some Reset → is_reset_input (c.resets ++ more) f sig ≡ true
  reset_is differ more sig e =
      let ok = read_on (broken_port (named (signal_ports f.signals)) (roles c) c) refl ports in
      let (x, there, input, is) = role_is (named (roles c)) f.signals rs sig Reset ok.1 e in
      let reset = among_resets x.name c is in
      let several = none_behind (lost (named (signal_ports f.signals)) (roles c)) _ ok.0 in
      let resets = none_behind (wide 407 (named (signal_ports f.signals)) (map (λ (k : ClockPin). k.name) c.clocks)) _ several.1 in
      let one : is_one (named (signal_ports f.signals) x.name) ≡ true = passes (λ n. is_one (named (signal_ports f.signals) n)) c.resets 408 resets.1 x.name reset in
      let narrow : (x.width == 1) ≡ true = sym (ap is_one (own_port f.signals sig x differ there)) ∙ one in
      ap (λ (o : Option Signal). option_map_or (is_reset_signal (c.resets ++ more)) o false) there
      ∙ ap₂ (λ a b. a && b) (input_kind x.kind input) (ap₂ (λ a b. a && b) narrow (reset_found x.name c.resets more reset))

-- The domains of a net fit it.
use Rattle.std.proofs.Common.{◌≡◌, ◌∙◌, sym, ap, subst, refl, arith, ℕ, zero, suc, ◌+◌, ◌<◌, ◌≤◌, ◌==◌, Bool, true, false, cond, List, [], ◌∷◌, ◌++◌, map, length, Option, Some, None, is_some, slice_get, get_or, Result, Ok, Err, length-append}
use Rattle.std.specs.Prelude.{find, All, AllPairs, ◌≢◌, slice_index}
use Rattle.std.proofs.Common.{◌⊎◌, inl, inr}
use Rattle.std.specs.List.Sorted.{IsStrictlyIncreasing}
use Rattle.std.specs.List.{AllZip, AllByRecursion}
use Rattle.std.specs.Str.{bytes_eq}
use Rattle.std.proofs.lemmas.Bool.Decides.{nat_tests}
use Rattle.std.proofs.lemmas.List.Elements.{All-from_recursion, recursion_from_All}
use Rattle.std.proofs.lemmas.List.{length-map, get_or-map, get_or_append_left}
use Rattle.cdc_base.specs.declared.fault.Fault.{Fault}
use Rattle.cdc_base.specs.declared.signal.Signal.{Signal}
use Rattle.cdc_base.specs.declared.signal.SigKind.{SigKind}
use Rattle.cdc_base.specs.declared.signal.SigKind.TheVariants.{Input, Register, Wire}
use Rattle.cdc_base.specs.declared.signal.ResetPin.{ResetPin}
use Rattle.cell_graph.specs.declared.net.Net.{Net}
use Rattle.cell_graph.specs.declared.net.Reg.{Reg}
use Rattle.cell_graph.specs.Cells.{Cells}
use Rattle.cell_graph.specs.Tree.{Tree, Var}
use Rattle.cell_graph.specs.Origin.{TreeBit, origin}
use Rattle.cell_graph.specs.Unfolded.{tree_of}
use Rattle.clock_constraints.specs.declared.ClockPin.{ClockPin}
use Rattle.clock_constraints.specs.declared.InputPin.{InputPin}
use Rattle.clock_constraints.specs.declared.Constraints.{Constraints}
use Rattle.clock_constraints.specs.Fit.{AreFit, declared_names}
use Rattle.clock_constraints.specs.Refusals.{Text, ◌>>=◌, required, unless}
use Rattle.domains.specs.declared.port.Role.{Role}
use Rattle.domains.specs.declared.port.Role.TheVariants.{Pin, Clocked, Reset, Static}
use Rattle.domains.specs.Tables.{named}
use Rattle.domains.specs.Ports.{is_input, signal_ports, clock_roles, input_roles, reset_roles, static_roles, roles, signal_role, signal_roles}
use Rattle.domains.specs.Clocks.{Roles, role_at, pin_of, input_clock, is_static, static_signals, pin_in, pin_at, register_of, clock_of_signal, Reads, HasClock}
use Rattle.domains.specs.Nets.{IsNet, is_register, register_signals}
use Rattle.domains.specs.Groups.{IsInGroup}
use Rattle.domains.specs.Assignment.{AreDomains, broken_port}
use Rattle.domains.specs.Fit.{HasClockAt, HasNoClockAt, IsClockedAs, IsStill, Fit}
use Rattle.domains.specs.declared.Domains.{Domains}
use Rattle.domains.proofs.Zips.{zip-length}

-- ---- roles

-- the clock of the role is among the first n
abbrev pub IsBelow : ℕ → Role → Type 0
IsBelow n (Pin k) = k < n
IsBelow n (Clocked k) = k < n
IsBelow n Reset = Unit {0}
IsBelow n Static = Unit {0}

-- an input of the top has a role, and such a one; no other signal has
abbrev pub IsRoleOf : ℕ → SigKind → Option Role → Type 0
IsRoleOf n Input o = (r : Role) × (o ≡ Some r) × IsBelow n r
IsRoleOf n Register o = o ≡ None
IsRoleOf n Wire o = o ≡ None

abbrev pub AreRolesOf : ℕ → List Signal → Roles → Type 0
AreRolesOf n ss rs = AllZip (λ (s : Signal) (o : Option Role). IsRoleOf n s.kind o) ss rs

both-parts : {A : Type 0} (P : A → Type 0) (xs ys : List A) → AllByRecursion P xs → AllByRecursion P ys → AllByRecursion P (xs ++ ys)
both-parts P [] ys h k = k
both-parts P (x ∷ xs) ys h k = (h.0, both-parts P xs ys h.1 k)

module _ (n : ℕ) where
  clocks-below : (k : ℕ) (cs : List ClockPin) → k + length cs ≤ n → AllByRecursion (λ (p : Text × Role). IsBelow n p.1) (clock_roles k cs)
  clocks-below k [] h = tt
  clocks-below k (c ∷ cs) h = (omega arith, clocks-below (k + 1) cs (omega arith))

  inputs-below : (is : List InputPin) → AllByRecursion (λ (i : InputPin). i.clock < n) is → AllByRecursion (λ (p : Text × Role). IsBelow n p.1) (input_roles is)
  inputs-below [] h = tt
  inputs-below (i ∷ is) h = (h.0, inputs-below is h.1)

  resets-below : (rs : List ResetPin) → AllByRecursion (λ (p : Text × Role). IsBelow n p.1) (reset_roles rs)
  resets-below [] = tt
  resets-below (r ∷ rs) = (tt, resets-below rs)

  statics-below : (ts : List Text) → AllByRecursion (λ (p : Text × Role). IsBelow n p.1) (static_roles ts)
  statics-below [] = tt
  statics-below (t ∷ ts) = (tt, statics-below ts)

  named-below : (ps : List (Text × Role)) (q : Text) (r : Role) → AllByRecursion (λ (p : Text × Role). IsBelow n p.1) ps → named ps q ≡ Some r → IsBelow n r
  named-below [] q r all h = absurd (cc)
  named-below (p ∷ ps) q r all h = go (bytes_eq q p.0) h (named-below ps q r all.1)
    where
      go : (b : Bool) → cond b (Some p.1) (named ps q) ≡ Some r → (named ps q ≡ Some r → IsBelow n r) → IsBelow n r
      go true e rest = let same : p.1 ≡ r = cc in subst (IsBelow n) same all.0
      go false e rest = rest e

  role-of : (declared : Text → Option Role) → ((q : Text) (r : Role) → declared q ≡ Some r → IsBelow n r)
      → (s : Signal) (o : Option Role) → signal_role declared s ≡ Ok o → IsRoleOf n s.kind o
  role-of declared all s o h = go s.kind h
    where
      found : (d : Option Role) → declared s.name ≡ d → (required 405 s.name d >>= (λ (r : Role). Ok (Some r))) ≡ Ok o → IsRoleOf n Input o
      found None e f = absurd (cc)
      found (Some r) e f = (r, cc, all s.name r e)

      go : (kind : SigKind) → cond (is_input kind) (required 405 s.name (declared s.name) >>= (λ (r : Role). Ok (Some r))) (Ok None) ≡ Ok o → IsRoleOf n kind o
      go Input e = found (declared s.name) refl e
      go Register e = cc
      go Wire e = cc

  roles-of : (declared : Text → Option Role) → ((q : Text) (r : Role) → declared q ≡ Some r → IsBelow n r)
      → (ss : List Signal) (rs : Roles) → signal_roles declared ss ≡ Ok rs → AreRolesOf n ss rs
  roles-of declared all [] [] h = tt
  roles-of declared all [] (r ∷ rs) h = absurd (cc)
  roles-of declared all (s ∷ ss) rs h = go (signal_role declared s) (signal_roles declared ss) refl refl h (roles-of declared all ss)
    where
      go : (a : Result (Option Role) Fault) (b : Result Roles Fault) → signal_role declared s ≡ a → signal_roles declared ss ≡ b
          → (a >>= (λ (o : Option Role). b >>= (λ (qs : Roles). Ok (o ∷ qs)))) ≡ Ok rs
          → ((qs : Roles) → signal_roles declared ss ≡ Ok qs → AreRolesOf n ss qs) → AreRolesOf n (s ∷ ss) rs
      go (Err f) b d e k rest = absurd (cc)
      go (Ok o) (Err f) d e k rest = absurd (cc)
      go (Ok o) (Ok qs) d e k rest = let same : o ∷ qs ≡ rs = cc in subst (AreRolesOf n (s ∷ ss)) same (role-of declared all s o d, rest qs e)

  -- the role of a signal, and what a role says of its signal
  pub role-at : (ss : List Signal) (rs : Roles) (sig : ℕ) (s : Signal) → AreRolesOf n ss rs → slice_get ss sig ≡ Some s → IsRoleOf n s.kind (role_at rs sig)
  role-at [] rs sig s z h = absurd (cc)
  role-at (t ∷ ss) [] sig s z h = absurd z
  role-at (t ∷ ss) (r ∷ rs) zero s z h = let same : t ≡ s = cc in subst (λ (q : Signal). IsRoleOf n q.kind r) same z.0
  role-at (t ∷ ss) (r ∷ rs) (suc sig) s z h = role-at ss rs sig s z.1 h

  role-some : (kind : SigKind) (o : Option Role) (r : Role) → IsRoleOf n kind o → o ≡ Some r → (kind ≡ Input) × IsBelow n r
  role-some Input o r h e = (refl, let same : h.0 ≡ r = (let f : Some h.0 ≡ Some r = sym h.1 ∙ e in cc) in subst (IsBelow n) same h.2)
  role-some Register o r h e = absurd (let f : None ≡ Some r = sym h ∙ e in cc)
  role-some Wire o r h e = absurd (let f : None ≡ Some r = sym h ∙ e in cc)

  pub signal-of_role : (ss : List Signal) (rs : Roles) (sig : ℕ) (r : Role) → AreRolesOf n ss rs → role_at rs sig ≡ Some r
      → (s : Signal) × (slice_get ss sig ≡ Some s) × (s.kind ≡ Input) × IsBelow n r
  signal-of_role [] [] sig r z h = absurd (cc)
  signal-of_role [] (o ∷ rs) sig r z h = absurd z
  signal-of_role (t ∷ ss) [] sig r z h = absurd z
  signal-of_role (t ∷ ss) (o ∷ rs) zero r z h = let is = role-some t.kind o r z.0 h in (t, refl, is.0, is.1)
  signal-of_role (t ∷ ss) (o ∷ rs) (suc sig) r z h = signal-of_role ss rs sig r z.1 h

  pub pin-below : (ss : List Signal) (rs : Roles) (sig k : ℕ) → AreRolesOf n ss rs → pin_of (role_at rs sig) ≡ Some k → k < n
  pin-below ss rs sig k z h = go (role_at rs sig) refl h
    where
      go : (o : Option Role) → role_at rs sig ≡ o → pin_of o ≡ Some k → k < n
      go None d e = absurd (cc)
      go (Some (Pin j)) d e = let same : j ≡ k = cc in subst (λ i. i < n) same (signal-of_role ss rs sig (Pin j) z d).3
      go (Some (Clocked j)) d e = absurd (cc)
      go (Some Reset) d e = absurd (cc)
      go (Some Static) d e = absurd (cc)

  pub register-below : (g : Cells) (ss : List Signal) (rs : Roles) (t : Tree) (i k : ℕ) → AreRolesOf n ss rs → pin_at rs (origin t i) ≡ Some k → k < n
  register-below g ss rs t i k z h = go (origin t i) h
    where
      tree : (u : Tree) → pin_in rs u ≡ Some k → k < n
      tree (Var sig w) e = pin-below ss rs sig k z e
      tree u e = absurd (cc)

      go : (o : TreeBit) → pin_at rs o ≡ Some k → k < n
      go None e = absurd (cc)
      go (Some b) e = tree b.0 e

-- ---- registers

none-below : (k q : ℕ) (ss : List Signal) (regs : List Reg) → map (λ (r : Reg). r.sig) regs ≡ register_signals k ss → q < k → register_of regs q ≡ None
none-below k q [] [] h l = refl
none-below k q [] (r ∷ regs) h l = absurd (cc)
none-below k q (s ∷ ss) regs h l = go (is_register s.kind) regs h (λ (rs : List Reg) e. none-below (k + 1) q ss rs e (omega arith))
  where
    go : (b : Bool) (regs : List Reg) → map (λ (r : Reg). r.sig) regs ≡ cond b (k ∷ register_signals (k + 1) ss) (register_signals (k + 1) ss)
        → ((rs : List Reg) → map (λ (r : Reg). r.sig) rs ≡ register_signals (k + 1) ss → register_of rs q ≡ None) → register_of regs q ≡ None
    go false regs e rest = rest regs e
    go true [] e rest = refl
    go true (r ∷ regs) e rest =
        let head : r.sig ≡ k = cc in
        let tail : map (λ (r : Reg). r.sig) regs ≡ register_signals (k + 1) ss = cc in
        let other : (r.sig == q) ≡ false = grind (arith, nat_tests) in
        ap (λ b. cond b (Some r) (register_of regs q)) other ∙ rest regs tail

-- a signal is found among the registers where it is of that kind
pub register-found : (k : ℕ) (ss : List Signal) (regs : List Reg) (j : ℕ) (s : Signal) → map (λ (r : Reg). r.sig) regs ≡ register_signals k ss
    → slice_get ss j ≡ Some s → is_some (register_of regs (k + j)) ≡ is_register s.kind
register-found k [] regs j s h e = absurd (cc)
register-found k (t ∷ ss) regs zero s h e = go (is_register t.kind) refl regs h ∙ ap (λ (q : Signal). is_register q.kind) (let same : t ≡ s = cc in same)
  where
    go : (b : Bool) → is_register t.kind ≡ b → (regs : List Reg) → map (λ (r : Reg). r.sig) regs ≡ cond b (k ∷ register_signals (k + 1) ss) (register_signals (k + 1) ss)
        → is_some (register_of regs (k + 0)) ≡ is_register t.kind
    go false d regs f = ap is_some (none-below (k + 1) (k + 0) ss regs f (omega arith)) ∙ sym d
    go true d [] f = absurd (cc)
    go true d (r ∷ regs) f =
        let head : r.sig ≡ k = cc in
        let this : (r.sig == k + 0) ≡ true = grind (arith, nat_tests) in
        ap (λ b. is_some (cond b (Some r) (register_of regs (k + 0)))) this ∙ sym d
register-found k (t ∷ ss) regs (suc j) s h e =
    let same : (k + 1) + j ≡ k + suc j = omega arith in
    go (is_register t.kind) regs h
    (λ (rs : List Reg) f. subst (λ q. is_some (register_of rs q) ≡ is_register s.kind) same (register-found (k + 1) ss rs j s f e))
  where
    go : (b : Bool) (regs : List Reg) → map (λ (r : Reg). r.sig) regs ≡ cond b (k ∷ register_signals (k + 1) ss) (register_signals (k + 1) ss)
        → ((rs : List Reg) → map (λ (r : Reg). r.sig) rs ≡ register_signals (k + 1) ss → is_some (register_of rs (k + suc j)) ≡ is_register s.kind)
        → is_some (register_of regs (k + suc j)) ≡ is_register s.kind
    go false regs f rest = rest regs f
    go true [] f rest = absurd (cc)
    go true (r ∷ regs) f rest =
        let head : r.sig ≡ k = cc in
        let tail : map (λ (r : Reg). r.sig) regs ≡ register_signals (k + 1) ss = cc in
        let other : (r.sig == k + suc j) ≡ false = grind (arith, nat_tests) in
        ap (λ b. is_some (cond b (Some r) (register_of regs (k + suc j)))) other ∙ rest regs tail

find-holds : {A : Type 0} (Q : A → Type 0) (p : A → Bool) (xs : List A) (x : A) → AllByRecursion Q xs → find p xs ≡ Some x → Q x
find-holds Q p [] x all h = absurd (cc)
find-holds Q p (y ∷ ys) x all h = go (p y) h (find-holds Q p ys x all.1)
  where
    go : (b : Bool) → cond b (Some y) (find p ys) ≡ Some x → (find p ys ≡ Some x → Q x) → Q x
    go true e rest = let same : y ≡ x = cc in subst Q same all.0
    go false e rest = rest e

within : {A : Type 0} (xs : List A) (i : ℕ) (x : A) → slice_get xs i ≡ Some x → i < length xs
within [] i x h = absurd (cc)
within (y ∷ xs) zero x h = omega arith
within (y ∷ xs) (suc i) x h = let r = within xs i x h in omega arith

pub unless-ok : {A : Type 0} (o : Option Fault) (r : Result A Fault) (x : A) → unless o r ≡ Ok x → r ≡ Ok x
unless-ok None r x h = h
unless-ok (Some f) r x h = absurd (cc)

static-role : (o : Option Role) → is_static o ≡ true → o ≡ Some Static
static-role None h = absurd (cc)
static-role (Some (Pin k)) h = absurd (cc)
static-role (Some (Clocked k)) h = absurd (cc)
static-role (Some Reset) h = absurd (cc)
static-role (Some Static) h = refl

-- what holds of each static signal
statics-all : (P : ℕ → Type 0) (k : ℕ) (rs : Roles) → ((j : ℕ) → is_static (role_at rs j) ≡ true → P (k + j)) → AllByRecursion P (static_signals k rs)
statics-all P k [] h = tt
statics-all P k (r ∷ rs) h =
    go (is_static r) refl (statics-all P (k + 1) rs (λ j is. let e : k + suc j ≡ (k + 1) + j = omega arith in subst P e (h (suc j) is)))
  where
    go : (b : Bool) → is_static r ≡ b → AllByRecursion P (static_signals (k + 1) rs) → AllByRecursion P (cond b (k ∷ static_signals (k + 1) rs) (static_signals (k + 1) rs))
    go false e rest = rest
    go true e rest = (let f : k + 0 ≡ k = omega arith in subst P f (h zero e), rest)

ascends-cons : (x : ℕ) (xs : List ℕ) → AllByRecursion (λ y. x < y) xs → IsStrictlyIncreasing xs → IsStrictlyIncreasing (x ∷ xs)
ascends-cons x [] all inc = λ k h. absurd (omega arith)
ascends-cons x (y ∷ ys) all inc = go
  where
    go : (k : ℕ) → k + 1 < length (x ∷ y ∷ ys) → slice_index (x ∷ y ∷ ys) k < slice_index (x ∷ y ∷ ys) (k + 1)
    go zero h = all.0
    go (suc k) h = let e : suc k + 1 ≡ suc (k + 1) = omega arith in subst (λ i. slice_index (y ∷ ys) k < slice_index (x ∷ y ∷ ys) i) (sym e) (inc k (omega arith))

statics-ascend : (k : ℕ) (rs : Roles) → IsStrictlyIncreasing (static_signals k rs)
statics-ascend k [] = λ j h. absurd (omega arith)
statics-ascend k (r ∷ rs) = go (is_static r) (statics-ascend (k + 1) rs)
  where
    go : (b : Bool) → IsStrictlyIncreasing (static_signals (k + 1) rs) → IsStrictlyIncreasing (cond b (k ∷ static_signals (k + 1) rs) (static_signals (k + 1) rs))
    go false rest = rest
    go true rest = ascends-cons k (static_signals (k + 1) rs) (statics-all (λ y. k < y) (k + 1) rs (λ j is. let f : k < (k + 1) + j = omega arith in f)) rest

groups-below : (groups : List Text) (cs : List ClockPin) (ks : List ℕ) → AllZip (IsInGroup groups) cs ks → AllByRecursion (λ k. k < length groups) ks
groups-below groups [] [] z = tt
groups-below groups [] (k ∷ ks) z = absurd z
groups-below groups (c ∷ cs) [] z = absurd z
groups-below groups (c ∷ cs) (k ∷ ks) z = (within groups k c.group z.0, groups-below groups cs ks z.1)

-- the clocks' names are the first of all
name-front : (c : Constraints) (m : ℕ) (d : Text) → m < length c.clocks → get_or (declared_names c) m d ≡ get_or (map (λ (q : ClockPin). q.name) c.clocks) m d
name-front c m d h =
    let clocks = map (λ (q : ClockPin). q.name) c.clocks in
    let inputs = map (λ (q : InputPin). q.name) c.inputs in
    let resets = map (λ (q : ResetPin). q.name) c.resets in
    let n = length-map c.clocks (λ (q : ClockPin). q.name) in
    let l = length-append clocks inputs in
    let k = length-append (clocks ++ inputs) resets in
    get_or_append_left ((clocks ++ inputs) ++ resets) c.statics d m (omega arith) ∙ get_or_append_left (clocks ++ inputs) resets d m (omega arith)
    ∙ get_or_append_left clocks inputs d m (omega arith)

names-long : (c : Constraints) (m : ℕ) → m < length c.clocks → m < length (declared_names c)
names-long c m h =
    let clocks = map (λ (q : ClockPin). q.name) c.clocks in
    let inputs = map (λ (q : InputPin). q.name) c.inputs in
    let resets = map (λ (q : ResetPin). q.name) c.resets in
    let n = length-map c.clocks (λ (q : ClockPin). q.name) in
    let l = length-append clocks inputs in
    let k = length-append (clocks ++ inputs) resets in
    let a = length-append ((clocks ++ inputs) ++ resets) c.statics in
    omega arith

-- ---- the domains

module _ (reads : Reads) (net : Net) (c : Constraints) (d : Domains) (is_net : IsNet net) (fit : AreFit c) (are : AreDomains reads net c d) where
  abbrev n : ℕ
  n = length c.clocks

  all-below : AllByRecursion (λ (p : Text × Role). IsBelow n p.1) (roles c)
  all-below =
      both-parts (λ (p : Text × Role). IsBelow n p.1) ((clock_roles 0 c.clocks ++ input_roles c.inputs) ++ reset_roles c.resets) (static_roles c.statics)
      (both-parts (λ (p : Text × Role). IsBelow n p.1) (clock_roles 0 c.clocks ++ input_roles c.inputs) (reset_roles c.resets)
      (both-parts (λ (p : Text × Role). IsBelow n p.1) (clock_roles 0 c.clocks) (input_roles c.inputs)
      (clocks-below n 0 c.clocks (omega arith)) (inputs-below n c.inputs (recursion_from_All (λ (i : InputPin). i.clock < n) c.inputs fit.inputs)))
      (resets-below n c.resets))
      (statics-below n c.statics)

  roles-fit : AreRolesOf n net.graph.signals are.roles
  roles-fit = roles-of n (named (roles c)) (λ q r e. named-below n (roles c) q r all-below e) net.graph.signals are.roles
      (unless-ok (broken_port (named (signal_ports net.graph.signals)) (roles c) c)
      (signal_roles (named (roles c)) net.graph.signals) are.roles are.ports)

  long : length are.roles ≡ length net.graph.signals
  long = sym (zip-length (λ (s : Signal) (o : Option Role). IsRoleOf n s.kind o) net.graph.signals are.roles roles-fit)

  same-count : n ≡ length d.clocks
  same-count = ap length (sym are.clocks)

  clock-at : (sig : ℕ) (s : Signal) → slice_get net.graph.signals sig ≡ Some s
      → slice_get d.clock_by_sig sig ≡ Some (clock_of_signal net.graph are.roles sig (register_of net.regs sig))
  clock-at sig s e = let l = long in let w = within net.graph.signals sig s e in are.clock_by_sig.1 sig (omega arith)

  is-found : (sig : ℕ) (s : Signal) → slice_get net.graph.signals sig ≡ Some s → is_some (register_of net.regs sig) ≡ is_register s.kind
  is-found sig s e = let z : 0 + sig ≡ sig = omega arith in
      subst (λ q. is_some (register_of net.regs q) ≡ is_register s.kind) z (register-found 0 net.graph.signals net.regs sig s is_net.registers e)

  no-register : (sig : ℕ) (o : Option Reg) → register_of net.regs sig ≡ o → is_some o ≡ false
      → clock_of_signal net.graph are.roles sig (register_of net.regs sig) ≡ input_clock (role_at are.roles sig)
  no-register sig None e h = ap (clock_of_signal net.graph are.roles sig) e
  no-register sig (Some r) e h = absurd (cc)

  plain-clock : (sig : ℕ) (s : Signal) → slice_get net.graph.signals sig ≡ Some s → is_register s.kind ≡ false
      → slice_get d.clock_by_sig sig ≡ Some (input_clock (role_at are.roles sig))
  plain-clock sig s e h = clock-at sig s e ∙ ap Some (no-register sig (register_of net.regs sig) refl (is-found sig s e ∙ h))

  register-clock : (sig : ℕ) (s : Signal) → slice_get net.graph.signals sig ≡ Some s → (o : Option Reg) → register_of net.regs sig ≡ o → is_some o ≡ true → HasClockAt d sig
  register-clock sig s e None f h = absurd (cc)
  register-clock sig s e (Some r) f h =
      let has = find-holds (λ (q : Reg). (k : ℕ) × HasClock reads net.graph are.roles q k) (λ (q : Reg). q.sig == sig) net.regs r
      (recursion_from_All (λ (q : Reg). (k : ℕ) × HasClock reads net.graph are.roles q k) net.regs are.registers) f in (
        has.0,
        clock-at sig s e ∙ ap (λ o. Some (clock_of_signal net.graph are.roles sig o)) f ∙ ap Some has.1.0,
        subst (λ m. has.0 < m) same-count (register-below n net.graph net.graph.signals are.roles (tree_of net.graph r.clock) 0 has.0 roles-fit has.1.0),
      )

  input-clock : (sig : ℕ) (o : Option Role) → role_at are.roles sig ≡ o → slice_get d.clock_by_sig sig ≡ Some (input_clock o) → HasClockAt d sig ⊎ HasNoClockAt d sig
  input-clock sig None f e = inr e
  input-clock sig (Some (Pin k)) f e = inr e
  input-clock sig (Some (Clocked k)) f e = inl (k, e, subst (λ m. k < m) same-count (signal-of_role n net.graph.signals are.roles sig (Clocked k) roles-fit f).3)
  input-clock sig (Some Reset) f e = inr e
  input-clock sig (Some Static) f e = inr e

  clocked : (sig : ℕ) (s : Signal) → slice_get net.graph.signals sig ≡ Some s → IsClockedAs d sig s.kind
  clocked sig s e = go s.kind refl
    where
      go : (kind : SigKind) → s.kind ≡ kind → IsClockedAs d sig kind
      go Register k = register-clock sig s e (register_of net.regs sig) refl (is-found sig s e ∙ ap is_register k)
      go Input k = input-clock sig (role_at are.roles sig) refl (plain-clock sig s e (ap is_register k))
      go Wire k = plain-clock sig s e (ap is_register k)
          ∙ ap (λ o. Some (input_clock o)) (let is = role-at n net.graph.signals are.roles sig s roles-fit e in subst (λ q. IsRoleOf n q (role_at are.roles sig)) k is)

  still : (sig : ℕ) → is_static (role_at are.roles sig) ≡ true → IsStill net d sig
  still sig h =
      let role = static-role (role_at are.roles sig) h in
      let of = signal-of_role n net.graph.signals are.roles sig Static roles-fit role in
      (of.0, of.1, of.2, plain-clock sig of.0 of.1 (ap is_register of.2) ∙ ap (λ o. Some (input_clock o)) role)

  names-differ : AllPairs (λ (a : ClockPin) (b : ClockPin). a.name ≢ b.name) c.clocks
  names-differ i j k l w same =
      let texts = map (λ (q : ClockPin). q.name) c.clocks in
      let count = length-map c.clocks (λ (q : ClockPin). q.name) in
      let at : (m : ℕ) → m < length c.clocks → get_or (declared_names c) m k.name ≡ (get_or c.clocks m k).name = λ m h.
      name-front c m k.name h ∙ get_or-map (λ (q : ClockPin). q.name) c.clocks m k k.name h in
      fit.names i j k.name l (names-long c j w) (at i (omega arith) ∙ same ∙ sym (at j w))

  pub are_fit : Fit net d
  are_fit = record {
    one_per_signal = are.clock_by_sig.0 ∙ long;
    signals = clocked;
    one_per_clock = sym (zip-length (IsInGroup d.groups) c.clocks d.group_by_clock are.group_by_clock) ∙ same-count;
    groups = All-from_recursion (λ k. k < length d.groups) d.group_by_clock (groups-below d.groups c.clocks d.group_by_clock are.group_by_clock);
    names = subst (AllPairs (λ (a : ClockPin) (b : ClockPin). a.name ≢ b.name)) (sym are.clocks) names-differ;
    settles = subst (All (λ (k : ClockPin). (1 ≤ k.settle) × (k.settle ≤ 3))) (sym are.clocks) fit.settles;
    ascending = subst IsStrictlyIncreasing (sym are.statics) (statics-ascend 0 are.roles);
    statics = subst (All (IsStill net d)) (sym are.statics) (All-from_recursion (IsStill net d) (static_signals 0 are.roles)
        (statics-all (IsStill net d) 0 are.roles (λ j is. let z : 0 + j ≡ j = omega arith in subst (IsStill net d) (sym z) (still j is))));
  }

-- No next value reads a clock pin.
use Rattle.std.proofs.Common.{◌≡◌, ◌∙◌, sym, ap, subst, refl, arith, ℕ, zero, suc, ◌+◌, ◌<◌, Bool, true, false, cond, List, [], ◌∷◌, ◌++◌, length, get_or, Option, Some, None, is_some, slice_get, Result, Ok, Err}
use Rattle.std.specs.Prelude.{Any}
use Rattle.std.specs.List.{AllByRecursion}
use Rattle.std.specs.Option.{option_map_or}
use Rattle.std.specs.Str.{bytes_eq}
use Rattle.std.proofs.lemmas.List.Elements.{recursion_from_All, All-contains}
use Rattle.std.proofs.lemmas.Slice.Eq.{bytes_eq-Decides}
use Rattle.cdc_base.specs.declared.bit.Bit.{Bit}
use Rattle.cdc_base.specs.declared.fault.Fault.{Fault}
use Rattle.cdc_base.specs.declared.signal.Signal.{Signal}
use Rattle.cdc_base.specs.declared.signal.SigKind.{SigKind}
use Rattle.cdc_base.specs.declared.signal.SigKind.TheVariants.{Input}
use Rattle.cell_graph.specs.declared.net.Net.{Net}
use Rattle.cell_graph.specs.declared.net.Reg.{Reg}
use Rattle.cell_graph.specs.Feeds.{node}
use Rattle.clock_constraints.specs.declared.ClockPin.{ClockPin}
use Rattle.clock_constraints.specs.declared.Constraints.{Constraints}
use Rattle.clock_constraints.specs.Refusals.{Text, ◌>>=◌, required}
use Rattle.domains.specs.declared.Domains.{Domains}
use Rattle.domains.specs.declared.port.Role.{Role}
use Rattle.domains.specs.declared.port.Role.TheVariants.{Pin}
use Rattle.domains.specs.Tables.{named}
use Rattle.domains.specs.Ports.{is_input, signal_ports, clock_roles, input_roles, reset_roles, static_roles, roles, signal_role, signal_roles}
use Rattle.domains.specs.Clocks.{Roles, role_at, pin_of, pin_bits, Reads, HasClock}
use Rattle.domains.specs.Assignment.{AreDomains, broken_port}
use Rattle.domains.specs.Fit.{ArePinsUnread}
use Rattle.domains.proofs.FitNets.{unless-ok}

-- what holds of each pin's bit holds of the bit of a signal that is a pin
pin-holds : (Q : Bit → Type 0) (k : ℕ) (rs : Roles) (j : ℕ) → AllByRecursion Q (pin_bits k rs) → is_some (pin_of (role_at rs j)) ≡ true → Q (record { sig = k + j; at = 0 })
pin-holds Q k [] j all h = absurd (cc)
pin-holds Q k (r ∷ rs) zero all h = go (pin_of r) all h
  where
    go : (o : Option ℕ) → AllByRecursion Q (option_map_or (λ (clock : ℕ). record { sig = k; at = 0 } ∷ pin_bits (k + 1) rs) o (pin_bits (k + 1) rs)) → is_some o ≡ true
        → Q (record { sig = k + 0; at = 0 })
    go None a e = absurd (cc)
    go (Some c) a e = let z : k ≡ k + 0 = omega arith in subst (λ s. Q (record { sig = s; at = 0 })) z a.0
pin-holds Q k (r ∷ rs) (suc j) all h =
    let same : (k + 1) + j ≡ k + suc j = omega arith in
    subst (λ s. Q (record { sig = s; at = 0 })) same (pin-holds Q (k + 1) rs j (rest (pin_of r) all) h)
  where
    rest : (o : Option ℕ) → AllByRecursion Q (option_map_or (λ (clock : ℕ). record { sig = k; at = 0 } ∷ pin_bits (k + 1) rs) o (pin_bits (k + 1) rs)) → AllByRecursion Q (pin_bits (k + 1) rs)
    rest None a = a
    rest (Some c) a = a.1

-- the role of an input is the one that is declared under its name
role-named : (declared : Text → Option Role) (ss : List Signal) (rs : Roles) (sig : ℕ) (s : Signal) → signal_roles declared ss ≡ Ok rs
    → slice_get ss sig ≡ Some s → s.kind ≡ Input → role_at rs sig ≡ declared s.name
role-named declared [] rs sig s h e i = absurd (cc)
role-named declared (t ∷ ss) rs sig s h e i =
    go (signal_role declared t) (signal_roles declared ss) refl refl h sig e (λ (qs : Roles) (j : ℕ) f g. role-named declared ss qs j s f g i)
  where
    own : (d : Option Role) → declared s.name ≡ d → (o : Option Role) → (required 405 s.name d >>= (λ (r : Role). Ok (Some r))) ≡ Ok o → o ≡ d
    own None d o f = absurd (cc)
    own (Some r) d o f = cc

    first : (o : Option Role) → signal_role declared t ≡ Ok o → t ≡ s → o ≡ declared s.name
    first o f same =
        let at : signal_role declared s ≡ Ok o = subst (λ (q : Signal). signal_role declared q ≡ Ok o) same f in
        own (declared s.name) refl o
        (subst (λ (kind : SigKind). cond (is_input kind) (required 405 s.name (declared s.name) >>= (λ (r : Role). Ok (Some r))) (Ok None) ≡ Ok o) i at)

    go : (a : Result (Option Role) Fault) (b : Result Roles Fault) → signal_role declared t ≡ a → signal_roles declared ss ≡ b
        → (a >>= (λ (o : Option Role). b >>= (λ (qs : Roles). Ok (o ∷ qs)))) ≡ Ok rs → (sig : ℕ) → slice_get (t ∷ ss) sig ≡ Some s
        → ((qs : Roles) (j : ℕ) → signal_roles declared ss ≡ Ok qs → slice_get ss j ≡ Some s → role_at qs j ≡ declared s.name) → role_at rs sig ≡ declared s.name
    go (Err f) b d e k n m rest = absurd (cc)
    go (Ok o) (Err f) d e k n m rest = absurd (cc)
    go (Ok o) (Ok qs) d e k zero m rest =
        let same : rs ≡ o ∷ qs = cc in let own_signal : t ≡ s = cc in ap (λ (xs : Roles). role_at xs 0) same ∙ first o d own_signal
    go (Ok o) (Ok qs) d e k (suc n) m rest =
        let same : rs ≡ o ∷ qs = cc in ap (λ (xs : Roles). role_at xs (suc n)) same ∙ rest qs n e m

-- a clock's name is declared as a pin
pin-named : (k : ℕ) (cs : List ClockPin) (q : Text) (i : ℕ) (c : ClockPin) → i < length cs → get_or cs i c ≡ c → c.name ≡ q
    → is_some (pin_of (named (clock_roles k cs) q)) ≡ true
pin-named k [] q i c l e n = absurd (omega arith)
pin-named k (d ∷ cs) q i c l e n = go (bytes_eq q d.name) refl i l e (λ j m f. pin-named (k + 1) cs q j c m f n)
  where
    go : (b : Bool) → bytes_eq q d.name ≡ b → (i : ℕ) → i < length (d ∷ cs) → get_or (d ∷ cs) i c ≡ c
        → ((j : ℕ) → j < length cs → get_or cs j c ≡ c → is_some (pin_of (named (clock_roles (k + 1) cs) q)) ≡ true)
        → is_some (pin_of (cond b (Some (Pin k)) (named (clock_roles (k + 1) cs) q))) ≡ true
    go true f i l e rest = refl
    go false f zero l e rest =
        let same : q ≡ d.name = sym n ∙ ap (λ (x : ClockPin). x.name) (sym e) in
        let t : bytes_eq q d.name ≡ true = (bytes_eq-Decides q d.name).1 same in
        let g : true ≡ false = sym t ∙ f in absurd (cc)
    go false f (suc i) l e rest = rest i (omega arith) e

pin-front : (xs ys : List (Text × Role)) (q : Text) → is_some (pin_of (named xs q)) ≡ true → is_some (pin_of (named (xs ++ ys) q)) ≡ true
pin-front [] ys q h = absurd (cc)
pin-front (x ∷ xs) ys q h = go (bytes_eq q x.0) h (pin-front xs ys q)
  where
    go : (b : Bool) → is_some (pin_of (cond b (Some x.1) (named xs q))) ≡ true → (is_some (pin_of (named xs q)) ≡ true → is_some (pin_of (named (xs ++ ys) q)) ≡ true)
        → is_some (pin_of (cond b (Some x.1) (named (xs ++ ys) q))) ≡ true
    go true e rest = e
    go false e rest = rest e

pub are_unread : (reads : Reads) (net : Net) (c : Constraints) (d : Domains) → AreDomains reads net c d → ArePinsUnread reads net d
are_unread reads net c d are r i sig member within pin =
    let s = pin.0 in
    let clocks = subst (Any (λ (k : ClockPin). k.name ≡ s.name)) are.clocks pin.3 in
    let q = s.name in
    let declared = pin-front ((clock_roles 0 c.clocks ++ input_roles c.inputs) ++ reset_roles c.resets) (static_roles c.statics) q
    (pin-front (clock_roles 0 c.clocks ++ input_roles c.inputs) (reset_roles c.resets) q
    (pin-front (clock_roles 0 c.clocks) (input_roles c.inputs) q (pin-named 0 c.clocks q clocks.0 clocks.1 clocks.2 clocks.3 clocks.4))) in
    let ok = unless-ok (broken_port (named (signal_ports net.graph.signals)) (roles c) c)
    (signal_roles (named (roles c)) net.graph.signals) are.roles are.ports in
    let role = role-named (named (roles c)) net.graph.signals are.roles sig s ok pin.1 pin.2 in
    let is_pin : is_some (pin_of (role_at are.roles sig)) ≡ true = ap (λ (o : Option Role). is_some (pin_of o)) role ∙ declared in
    let has = All-contains (λ (q : Reg). (k : ℕ) × HasClock reads net.graph are.roles q k) net.regs r are.registers member in
    let unread = λ (b : Bit). reads net.graph (node r.next i) b false in
    let z : 0 + sig ≡ sig = omega arith in
    subst (λ k. unread (record { sig = k; at = 0 })) z
    (pin-holds unread 0 are.roles sig (recursion_from_All unread (pin_bits 0 are.roles) (has.1.1 i within)) is_pin)

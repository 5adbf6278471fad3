-- Registers are different signals, so each one's clock is set once.
use Rattle.std.proofs.Common.{◌≡◌, ◌∙◌, sym, ap, refl, arith, ℕ, zero, suc, ◌+◌, ◌<◌, ◌≤◌, ◌==◌, Bool, true, false, cond, List, [], ◌∷◌, ◌++◌, map, length, take, drop, get_or, subst, Option, Some, None, slice_get}
use Rattle.std.proofs.Math.ListN.{set}
use Rattle.std.proofs.lemmas.Bool.Decides.{nat_tests}
use Rattle.cdc_base.specs.declared.signal.Signal.{Signal}
use Rattle.cell_graph.specs.declared.net.Reg.{Reg}
use Rattle.cell_graph.specs.declared.net.Net.{Net}
use Rattle.cell_graph.specs.Cells.{Cells}
use Rattle.cell_graph.specs.Feeds.{node}
use Rattle.cell_graph.specs.Unfolded.{IsWellFormed, IsNodeOf}
use Rattle.std.proofs.lemmas.List.{take_more, drop_more, take-append-drop}
use Rattle.std.proofs.lemmas.List.Elements.{All-more, All-get_or}
use Rattle.cdc_base.specs.declared.fault.Stop.{Stop}
use Rattle.cdc_base.specs.declared.fault.Stop.TheVariants.{Refused, Memory}
use Rattle.clock_constraints.specs.Refusals.{broken}
use Rattle.std.proofs.lemmas.Option.{slice_get-get_or}
use Rattle.domains.specs.Assignment.{Refuses, IsFirstUnclocked}
use Rattle.domains.specs.Clocks.{Roles, role_at, input_clock, register_clock, register_of, clock_of_signal, AreClocks, Reads, HasClock, LacksClock, AreClocked, signal_name}
use Rattle.domains.specs.Nets.{IsNet, is_register, register_signals}

at_least : (k : ℕ) (ss : List Signal) (xs : List Reg) (r : Reg) (ys : List Reg)
    → map (λ (q : Reg). q.sig) (xs ++ r ∷ ys) ≡ register_signals k ss → k ≤ r.sig
at_least k [] [] r ys h = absurd (cc)
at_least k [] (x ∷ xs) r ys h = absurd (cc)
at_least k (s ∷ ss) xs r ys h = go (is_register s.kind) xs h (λ (zs : List Reg). at_least (k + 1) ss zs r ys)
  where
    go : (b : Bool) (xs : List Reg) → map (λ (q : Reg). q.sig) (xs ++ r ∷ ys) ≡ cond b (k ∷ register_signals (k + 1) ss) (register_signals (k + 1) ss)
        → ((zs : List Reg) → map (λ (q : Reg). q.sig) (zs ++ r ∷ ys) ≡ register_signals (k + 1) ss → k + 1 ≤ r.sig) → k ≤ r.sig
    go false xs e rest = let l = rest xs e in omega arith
    go true [] e rest = let f : r.sig ≡ k = cc in omega arith
    go true (x ∷ xs) e rest = let f : map (λ (q : Reg). q.sig) (xs ++ r ∷ ys) ≡ register_signals (k + 1) ss = cc in let l = rest xs f in omega arith

-- no earlier register is the same signal
fresh : (k : ℕ) (ss : List Signal) (xs : List Reg) (r : Reg) (ys : List Reg)
    → map (λ (q : Reg). q.sig) (xs ++ r ∷ ys) ≡ register_signals k ss → register_of xs r.sig ≡ None
fresh k [] [] r ys h = refl
fresh k [] (x ∷ xs) r ys h = absurd (cc)
fresh k (s ∷ ss) xs r ys h = go (is_register s.kind) xs h (λ (zs : List Reg). fresh (k + 1) ss zs r ys)
  where
    go : (b : Bool) (xs : List Reg) → map (λ (q : Reg). q.sig) (xs ++ r ∷ ys) ≡ cond b (k ∷ register_signals (k + 1) ss) (register_signals (k + 1) ss)
        → ((zs : List Reg) → map (λ (q : Reg). q.sig) (zs ++ r ∷ ys) ≡ register_signals (k + 1) ss → register_of zs r.sig ≡ None) → register_of xs r.sig ≡ None
    go false xs e rest = rest xs e
    go true [] e rest = refl
    go true (x ∷ xs) e rest =
        let f : map (λ (q : Reg). q.sig) (xs ++ r ∷ ys) ≡ register_signals (k + 1) ss = cc in
        let head : x.sig ≡ k = cc in
        let l = at_least (k + 1) ss xs r ys f in
        let other : (x.sig == r.sig) ≡ false = grind (arith, nat_tests) in
        ap (λ b. cond b (Some x) (register_of xs r.sig)) other ∙ rest xs f

found_old : (xs : List Reg) (r : Reg) (sig : ℕ) → (r.sig == sig) ≡ false → register_of (xs ++ r ∷ []) sig ≡ register_of xs sig
found_old [] r sig h = ap (λ b. cond b (Some r) None) h
found_old (x ∷ xs) r sig h = ap (cond (x.sig == sig) (Some x)) (found_old xs r sig h)

found_new : (xs : List Reg) (r : Reg) → register_of xs r.sig ≡ None → register_of (xs ++ r ∷ []) r.sig ≡ Some r
found_new [] r h = ap (λ b. cond b (Some r) None) (let e : (r.sig == r.sig) ≡ true = grind (arith, nat_tests) in e)
found_new (x ∷ xs) r h = go (x.sig == r.sig) h (found_new xs r)
  where
    go : (b : Bool) → cond b (Some x) (register_of xs r.sig) ≡ None → (register_of xs r.sig ≡ None → register_of (xs ++ r ∷ []) r.sig ≡ Some r)
        → cond b (Some x) (register_of (xs ++ r ∷ []) r.sig) ≡ Some r
    go true e rest = absurd (cc)
    go false e rest = rest e

pub first_clocks : (g : Cells) (roles : Roles) → AreClocks g roles [] (map input_clock roles)
first_clocks g roles = (long roles, here roles)
  where
    long : (rs : Roles) → length (map input_clock rs) ≡ length rs
    long [] = refl
    long (r ∷ rs) = ap suc (long rs)

    here : (rs : Roles) (sig : ℕ) → sig < length rs → slice_get (map input_clock rs) sig ≡ Some (input_clock (role_at rs sig))
    here [] sig h = absurd (omega arith)
    here (r ∷ rs) zero h = refl
    here (r ∷ rs) (suc sig) h = here rs sig (omega arith)

get-set_same : {A : Type 0} (xs : List A) (i : ℕ) (v : A) → i < length xs → slice_get (set xs i v) i ≡ Some v
get-set_same [] i v h = absurd (omega arith)
get-set_same (x ∷ xs) zero v h = refl
get-set_same (x ∷ xs) (suc i) v h = get-set_same xs i v (omega arith)

get-set_other : {A : Type 0} (xs : List A) (i j : ℕ) (v : A) → (i == j) ≡ false → slice_get (set xs i v) j ≡ slice_get xs j
get-set_other [] i j v h = refl
get-set_other (x ∷ xs) zero zero v h = absurd (cc)
get-set_other (x ∷ xs) zero (suc j) v h = refl
get-set_other (x ∷ xs) (suc i) zero v h = refl
get-set_other (x ∷ xs) (suc i) (suc j) v h = get-set_other xs i j v (let f : (i == j) ≡ false = grind (arith, nat_tests) in f)

length-set_clock : {A : Type 0} (xs : List A) (i : ℕ) (v : A) → length (set xs i v) ≡ length xs
length-set_clock [] i v = refl
length-set_clock (x ∷ xs) zero v = refl
length-set_clock (x ∷ xs) (suc i) v = ap suc (length-set_clock xs i v)

-- one more register has its clock
pub more_clocks : (g : Cells) (roles : Roles) (ss : List Signal) (xs : List Reg) (r : Reg) (ys : List Reg) (clocks : List (Option ℕ)) (k : ℕ)
    → map (λ (q : Reg). q.sig) (xs ++ r ∷ ys) ≡ register_signals 0 ss → register_clock g roles r.clock ≡ Some k
    → AreClocks g roles xs clocks → AreClocks g roles (xs ++ r ∷ []) (set clocks r.sig (Some k))
more_clocks g roles ss xs r ys clocks k regs from old =
    (length-set_clock clocks r.sig (Some k) ∙ old.0, λ sig within. at sig within (r.sig == sig) refl)
  where
    at : (sig : ℕ) → sig < length roles → (b : Bool) → (r.sig == sig) ≡ b
        → slice_get (set clocks r.sig (Some k)) sig ≡ Some (clock_of_signal g roles sig (register_of (xs ++ r ∷ []) sig))
    at sig within false e =
        get-set_other clocks r.sig sig (Some k) e ∙ old.1 sig within ∙ ap (λ o. Some (clock_of_signal g roles sig o)) (sym (found_old xs r sig e))
    at sig within true e =
        let same : r.sig ≡ sig = grind (arith, nat_tests) in
        let l = old.0 in
        ap (slice_get (set clocks r.sig (Some k))) (sym same) ∙ get-set_same clocks r.sig (Some k) (omega arith) ∙ ap Some (sym from)
        ∙ ap (λ o. Some (clock_of_signal g roles r.sig o)) (sym (found_new xs r (fresh 0 ss xs r ys regs)))
        ∙ ap (λ s. Some (clock_of_signal g roles s (register_of (xs ++ r ∷ []) s))) same

-- one more register is clocked; the items are the net's registers
pub registers-more : (reads : Reads) (net : Net) (roles : Roles) (items : List Reg) (i : ℕ) (d : Reg) (k : ℕ) → items ≡ net.regs → i < length items → IsNet net
    → (IsWellFormed net.graph → IsNodeOf net.graph (node (get_or items i d).clock 0) → HasClock reads net.graph roles (get_or items i d) k)
    → AreClocked reads net.graph roles (take i net.regs) → AreClocked reads net.graph roles (take (i + 1) net.regs)
registers-more reads net roles items i d k same l is has old =
    let m = ap length same in
    let is_node = All-get_or (λ (r : Reg). IsNodeOf net.graph (node r.clock 0)) net.regs i d (omega arith) is.clocks in
    let clocked = has is.graph (subst (λ (rs : List Reg). IsNodeOf net.graph (node (get_or rs i d).clock 0)) (sym same) is_node) in
    subst (λ (rs : List Reg). AreClocked reads net.graph roles (take (i + 1) rs)) same
    (All-more (λ (r : Reg). (k : ℕ) × HasClock reads net.graph roles r k) items i d l
    (subst (λ (rs : List Reg). AreClocked reads net.graph roles (take i rs)) (sym same) old) (k, clocked))

pub clocks-more : (reads : Reads) (net : Net) (roles : Roles) (items : List Reg) (i : ℕ) (d : Reg) (k : ℕ) (clocks : List (Option ℕ)) → items ≡ net.regs → i < length items → IsNet net
    → (IsWellFormed net.graph → IsNodeOf net.graph (node (get_or items i d).clock 0) → HasClock reads net.graph roles (get_or items i d) k)
    → AreClocks net.graph roles (take i net.regs) clocks → AreClocks net.graph roles (take (i + 1) net.regs) (set clocks (get_or items i d).sig (Some k))
clocks-more reads net roles items i d k clocks same l is has old =
    let m = ap length same in
    let is_node = All-get_or (λ (r : Reg). IsNodeOf net.graph (node r.clock 0)) net.regs i d (omega arith) is.clocks in
    let clocked = has is.graph (subst (λ (rs : List Reg). IsNodeOf net.graph (node (get_or rs i d).clock 0)) (sym same) is_node) in
    let r = get_or items i d in
    let whole : take i items ++ r ∷ drop (i + 1) items ≡ items = ap (λ (rs : List Reg). take i items ++ rs) (sym (drop_more items i d l)) ∙ take-append-drop i items in
    subst (λ (rs : List Reg). AreClocks net.graph roles (take (i + 1) rs) (set clocks r.sig (Some k))) same
    (subst (λ (rs : List Reg). AreClocks net.graph roles rs (set clocks r.sig (Some k))) (sym (take_more items i d l))
    (more_clocks net.graph roles net.graph.signals (take i items) r (drop (i + 1) items) clocks k
    (ap (map (λ (q : Reg). q.sig)) (whole ∙ same) ∙ is.registers) clocked.0
    (subst (λ (rs : List Reg). AreClocks net.graph roles (take i rs) clocks) (sym same) old)))

-- the first register without a clock
pub first-unclocked : (reads : Reads) (net : Net) (roles : Roles) (items : List Reg) (i : ℕ) (d : Reg) (stop : Stop) → items ≡ net.regs → i < length items → IsNet net
    → (IsWellFormed net.graph → IsNodeOf net.graph (node (get_or items i d).clock 0)
    → Refuses (λ f. (f ≡ broken 406 (signal_name net.graph.signals (get_or items i d).sig)) × LacksClock reads net.graph roles (get_or items i d)) stop)
    → AreClocked reads net.graph roles (take i net.regs)
    → Refuses (λ f. (r : Reg) × IsFirstUnclocked reads net.graph roles net.regs r × (f ≡ broken 406 (signal_name net.graph.signals r.sig))) stop
first-unclocked reads net roles items i d Memory same l is lacks old = tt
first-unclocked reads net roles items i d (Refused f) same l is lacks old =
    let m = ap length same in
    let is_node = All-get_or (λ (r : Reg). IsNodeOf net.graph (node r.clock 0)) net.regs i d (omega arith) is.clocks in
    let has = lacks is.graph (subst (λ (rs : List Reg). IsNodeOf net.graph (node (get_or rs i d).clock 0)) (sym same) is_node) in
    let here : slice_get net.regs i ≡ Some (get_or items i d) = subst (λ (rs : List Reg). slice_get rs i ≡ Some (get_or items i d)) same (slice_get-get_or items i d l) in
    (get_or items i d, (i, here, old, has.1), has.0)

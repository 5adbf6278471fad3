-- The net has the trees of the flat design, and its domains fit it.
use Rattle.std.proofs.Common.{codes, bytes_eq, cond, ◌==◌, eqb-true, ◌≡◌, ◌≢◌, ℕ, zero, suc, ◌^◌, ◌<◌, ◌≤◌, Bool, true, false, [], ◌∷◌, Some, None, refl, sym, ap, ◌∙◌, subst, inl, inr, arith, slice_get}
use Rattle.std.proofs.lemmas.List.Elements.{All-cons, All-from_recursion, All-nil}
use Rattle.std.proofs.lemmas.List.Kept.{AllPairs-cons}
use Rattle.cdc_base.specs.declared.bit.Bit.{Bit}
use Rattle.cdc_base.specs.declared.signal.Signal.{Signal}
use Rattle.cell_graph.specs.Cofactor as rules
use Rattle.cell_graph.specs.Cells.{cell_width}
use Rattle.cell_graph.specs.Nets.{bit_count, HasNextCells, IsNet}
use Rattle.cell_graph.specs.Shared.{IsShared}
use Rattle.cell_graph.specs.Unfolded.{IsCellOf, IsNodeOf, IsWellFormed, tree_of}
use Rattle.cell_graph.specs.Feeds.{node}
use Rattle.cell_graph.specs.declared.cell.Cell.{Cell}
use Rattle.cell_graph.specs.declared.cell.Cell.TheVariants.{Var}
use Rattle.cell_graph.specs.declared.cell.CellId.{CellId}
use Rattle.cell_graph.specs.declared.net.Reg.{Reg}
use Rattle.clock_constraints.specs.declared.ClockPin.{ClockPin}
use Rattle.cofactor.specs.contracts.nodes.PlainCofactors.TheImpl as plain
use Rattle.domains.specs.declared.port.Role.TheVariants.{Pin, Clocked}
use Rattle.domains.specs.Assignment.{AreDomains}
use Rattle.domains.specs.Clocks.{HasClock, Roles, ReadsNone, clock_of_signal, pin_bits, register_of}
use Rattle.domains.specs.Fit.{Fit, IsClockedAs}
use Rattle.elaborate.specs.NetTrees.{HasTrees, IsRegisterOf}
use Rattle.flat_meaning.specs.SignalTrees.{AreTrees}
use Rattle.flat_meaning.specs.Trees.{Selects}
use Rattle.gray_pointer.specs.Registers.{AreStartsNarrow}
use Rattle.obligations.specs.Judged.{CanAudit}
use Rattle.run_file.specs.Names.{CanRead}
use Rattle.settling_sim.specs.Starts.{HasStarts}
use Rattle.worked_audit.specs.Modules.{constraints}
use Rattle.worked_audit.specs.Design.{bit_of, cell, domains, flat, graph, net, register, signals}
use Rattle.worked_audit.proofs.Signals.{at_signal, same_item}
use Rattle.worked_audit.proofs.Unfolded.{sized}

-- ---- trees

first_register : (sel : Selects) → AreTrees flat sel → IsRegisterOf flat sel graph (register 4 2 0)
first_register sel are = record { next_stands = omega arith; clock_stands = omega arith; next = sym (are 2 0 1); clock = sym (are 0 0 1) }

second_register : (sel : Selects) → AreTrees flat sel → IsRegisterOf flat sel graph (register 5 3 1)
second_register sel are = record { next_stands = omega arith; clock_stands = omega arith; next = sym (are 4 0 1); clock = sym (are 1 0 1) }

third_register : (sel : Selects) → AreTrees flat sel → IsRegisterOf flat sel graph (register 6 4 1)
third_register sel are = record { next_stands = omega arith; clock_stands = omega arith; next = sym (are 5 0 1); clock = sym (are 1 0 1) }

pub has_trees : (sel : Selects) → AreTrees flat sel → HasTrees flat sel net
has_trees sel are = record {
  registers = All-from_recursion (IsRegisterOf flat sel graph) net.regs (first_register sel are, (second_register sel are, (third_register sel are, tt)));
  outputs = ap (λ t. t ∷ []) (sym (are 3 0 1 ∙ are 6 0 1));
}

-- ---- cells

is_cell : (n : ℕ) (c : Cell) → slice_get graph.cells n ≡ Some c → IsCellOf graph n c
is_cell zero c e = subst (IsCellOf graph 0) (same_item (Var 0) c e) (omega arith)
is_cell (suc zero) c e = subst (IsCellOf graph 1) (same_item (Var 1) c e) (omega arith)
is_cell (suc (suc zero)) c e = subst (IsCellOf graph 2) (same_item (Var 2) c e) (omega arith)
is_cell (suc (suc (suc zero))) c e = subst (IsCellOf graph 3) (same_item (Var 4) c e) (omega arith)
is_cell (suc (suc (suc (suc zero)))) c e = subst (IsCellOf graph 4) (same_item (Var 5) c e) (omega arith)
is_cell (suc (suc (suc (suc (suc zero))))) c e = subst (IsCellOf graph 5) (same_item (Var 6) c e) (omega arith)
is_cell (suc (suc (suc (suc (suc (suc n)))))) c e = cc

well_formed : IsWellFormed graph
well_formed = record { signals = sized; cells = is_cell }

pub is_net : IsNet net
is_net = record {
  graph = well_formed;
  registers = refl;
  clocks = All-from_recursion (λ (r : Reg). IsNodeOf graph (node r.clock 0)) net.regs (first, (second, (second, tt)));
}
  where
    first : (0 < 6) × (0 < 1)
    first = (omega arith, omega arith)

    second : (1 < 6) × (0 < 1)
    second = (omega arith, omega arith)

-- the next value of a register is a cell of one bit
IsNextOf : ℕ → CellId → Type 0
IsNextOf sig c = (c.0 < 6) × (cell_width graph c ≡ bit_count signals sig)

is_next : (sig : ℕ) (x c : CellId) → Some x ≡ Some c → IsNextOf sig x → IsNextOf sig c
is_next sig x c e h = subst (IsNextOf sig) (same_item x c e) h

pub has_next_cells : HasNextCells net
unfolding IsNextOf
has_next_cells sig c e = go (4 == sig) (5 == sig) (6 == sig) (eqb-true 4 sig) (eqb-true 5 sig) (eqb-true 6 sig) e
  where
    go : (x y z : Bool) → (x ≡ true → 4 ≡ sig) → (y ≡ true → 5 ≡ sig) → (z ≡ true → 6 ≡ sig)
        → cond x (Some (cell 2)) (cond y (Some (cell 3)) (cond z (Some (cell 4)) None)) ≡ Some c → IsNextOf sig c
    go true y z f g h k = subst (λ s. IsNextOf s c) (f refl) (is_next 4 (cell 2) c k (omega arith, refl))
    go false true z f g h k = subst (λ s. IsNextOf s c) (g refl) (is_next 5 (cell 3) c k (omega arith, refl))
    go false false true f g h k = subst (λ s. IsNextOf s c) (h refl) (is_next 6 (cell 4) c k (omega arith, refl))
    go false false false f g h k = cc

-- the place of the cell of a signal
place_of : Cell → ℕ
place_of (Var sig) = place sig
  where
    place : ℕ → ℕ
    place zero = 0
    place (suc zero) = 1
    place (suc (suc zero)) = 2
    place (suc (suc (suc s))) = suc (suc s)
place_of c = 0

place_is : (n : ℕ) (c : Cell) → slice_get graph.cells n ≡ Some c → place_of c ≡ n
unfolding place_of
place_is zero c e = ap place_of (sym (same_item (Var 0) c e))
place_is (suc zero) c e = ap place_of (sym (same_item (Var 1) c e))
place_is (suc (suc zero)) c e = ap place_of (sym (same_item (Var 2) c e))
place_is (suc (suc (suc zero))) c e = ap place_of (sym (same_item (Var 4) c e))
place_is (suc (suc (suc (suc zero)))) c e = ap place_of (sym (same_item (Var 5) c e))
place_is (suc (suc (suc (suc (suc zero))))) c e = ap place_of (sym (same_item (Var 6) c e))
place_is (suc (suc (suc (suc (suc (suc n)))))) c e = cc

is_shared : IsShared graph
is_shared m n c e f = sym (place_is m c e) ∙ place_is n c f

-- ---- start values: none is known

narrow : AreStartsNarrow net
narrow = record { known = start; start = start_value }
  where
    zero_fits : 0 < 2 ^ 1
    zero_fits = omega arith

    start : (sig : ℕ) (s : Signal) → slice_get signals sig ≡ Some s → s.known < 2 ^ s.width
    start = at_signal (λ sig s. s.known < 2 ^ s.width) zero_fits zero_fits zero_fits zero_fits zero_fits zero_fits zero_fits

    start_value : (sig : ℕ) (s : Signal) → slice_get signals sig ≡ Some s → s.start < 2 ^ s.width
    start_value = at_signal (λ sig s. s.start < 2 ^ s.width) zero_fits zero_fits zero_fits zero_fits zero_fits zero_fits zero_fits

pub has_starts : HasStarts net domains
has_starts = record {
  within = narrow.known;
  states = λ sig s e no_state. at_signal (λ n x. x.known ≡ 0) refl refl refl refl refl refl refl sig s e;
}

-- ---- domains

-- the clocks have two names
pub names_differ : codes "ca" ≢ codes "cb"
names_differ e = let h : true ≡ false = ap (bytes_eq (codes "ca")) e in cc

pub fit : Fit net domains
fit = record {
  one_per_signal = refl;
  signals = at_signal (λ sig s. IsClockedAs domains sig s.kind) (inr refl) (inr refl) (inl (0, refl, omega arith)) refl
      (0, refl, omega arith) (1, refl, omega arith) (1, refl, omega arith);
  one_per_clock = refl;
  groups = All-from_recursion (λ k. k < 2) domains.group_by_clock (omega arith, (omega arith, tt));
  names = AllPairs-cons Differ first_clock (second_clock ∷ []) (All-cons (Differ first_clock) second_clock [] names_differ (All-nil _))
      (AllPairs-cons Differ second_clock [] (All-nil _) (λ i j d before within. absurd (omega (arith, within))));
  settles = All-from_recursion (λ (k : ClockPin). (1 ≤ k.settle) × (k.settle ≤ 3)) domains.clocks (one, (one, tt));
  ascending = λ k l. absurd (omega (arith, l));
  statics = All-nil _;
}
  where
    Differ : ClockPin → ClockPin → Type 0
    Differ a b = a.name ≢ b.name

    first_clock : ClockPin
    first_clock = record { name = codes "ca"; group = codes "A"; settle = 1 }

    second_clock : ClockPin
    second_clock = record { name = codes "cb"; group = codes "B"; settle = 1 }

    one : (1 ≤ 1) × (1 ≤ 3)
    one = (omega arith, omega arith)

pub can_read : CanRead net domains
can_read = record { signals = omega arith; clocks = omega arith; statics = fit.ascending }

pub can_audit : CanAudit net domains
can_audit = record { is_net = is_net; has_next = has_next_cells; fits = fit; is_shared = is_shared; narrow = narrow }

abbrev roles : Roles
roles = Some (Pin 0) ∷ Some (Pin 1) ∷ Some (Clocked 0) ∷ None ∷ None ∷ None ∷ None ∷ []

-- a next value reads neither clock pin
reads_no_pin : (next : CellId) → ((i : ℕ) → rules.reads [] (tree_of graph next) i (bit_of 0) ≡ false)
    → ((i : ℕ) → rules.reads [] (tree_of graph next) i (bit_of 1) ≡ false) → ReadsNone plain.ghosts.reads graph (pin_bits 0 roles) next
reads_no_pin next first second i l =
    All-from_recursion (λ (b : Bit). plain.ghosts.reads graph (node next i) b false) (pin_bits 0 roles)
    ((λ well is. sym (first i)), ((λ well is. sym (second i)), tt))

clocks_are : (sig : ℕ) → sig < 7 → slice_get domains.clock_by_sig sig ≡ Some (clock_of_signal graph roles sig (register_of net.regs sig))
clocks_are zero l = refl
clocks_are (suc zero) l = refl
clocks_are (suc (suc zero)) l = refl
clocks_are (suc (suc (suc zero))) l = refl
clocks_are (suc (suc (suc (suc zero)))) l = refl
clocks_are (suc (suc (suc (suc (suc zero))))) l = refl
clocks_are (suc (suc (suc (suc (suc (suc zero)))))) l = refl
clocks_are (suc (suc (suc (suc (suc (suc (suc sig))))))) l = absurd (omega (arith, l))

pub are_domains : AreDomains plain.ghosts.reads net constraints domains
are_domains = record {
  roles = roles;
  ports = refl;
  registers = All-from_recursion (λ r. (k : ℕ) × HasClock plain.ghosts.reads graph roles r k) net.regs (
    (0, (refl, reads_no_pin (cell 2) (λ i. refl) (λ i. refl))),
    ((1, (refl, reads_no_pin (cell 3) (λ i. refl) (λ i. refl))), ((1, (refl, reads_no_pin (cell 4) (λ i. refl) (λ i. refl))), tt)),
  );
  clocks = refl;
  groups = refl;
  group_by_clock = (refl, (refl, tt));
  clock_by_sig = (refl, clocks_are);
  statics = refl;
}

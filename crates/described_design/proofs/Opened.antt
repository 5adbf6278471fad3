-- A described net can be opened by a replay: its cells are in order, and its registers are as the model numbers them.
use Rattle.std.proofs.Common.{◌≡◌, ◌∙◌, ℕ, suc, ◌+◌, Bool, true, false, List, [], ◌∷◌, Option, Some, Contains, inl, inr, refl, sym, ap, subst, arith}
use Rattle.std.specs.Prelude.{slice_get, if◌then◌else◌}
use Rattle.std.specs.Option.{option_map_or}
use Rattle.std.proofs.lemmas.Bool.{cases_lt}
use Rattle.cdc_base.specs.declared.signal.Signal.{Signal}
use Rattle.cell_graph.specs.declared.net.Net.{Net}
use Rattle.cell_graph.specs.declared.net.Reg.{Reg}
use Rattle.domains.specs.declared.Domains.{Domains}
use Rattle.domains.specs.Nets.{IsNet, is_register, register_signals}
use Rattle.cdc_model.specs.Nets.{AreAscending, HasNextCells, next_cell}
use Rattle.cdc_model.proofs.Ascending.{in_map, parts}
use Rattle.cdc_model.proofs.Found.{has_next, net_ascends}
use Rattle.cdc_model.proofs.Justify.{in_slice}
use Rattle.settling_sim.specs.Opened.{CanOpen}
use Rattle.settling_sim.specs.Runs.{HasCells}
use Rattle.settling_sim.proofs.Values.{found-register}
use Rattle.described_design.specs.Designs.{CanReplay}

of_kind : (k : ℕ) (ss : List Signal) (n : ℕ) → Contains (register_signals k ss) n → (j : ℕ) × (s : Signal) × (n ≡ k + j) × (slice_get ss j ≡ Some s) × (is_register s.kind ≡ true)
of_kind k [] n i = absurd (omega (arith, i.1))
of_kind k (s ∷ ss) n i = go (is_register s.kind) refl i (of_kind (k + 1) ss n)
  where
    further : (j : ℕ) × (q : Signal) × (n ≡ (k + 1) + j) × (slice_get ss j ≡ Some q) × (is_register q.kind ≡ true)
        → (j : ℕ) × (q : Signal) × (n ≡ k + j) × (slice_get (s ∷ ss) j ≡ Some q) × (is_register q.kind ≡ true)
    further (j, q, at, there, kind) = (suc j, q, omega (arith, at), there, kind)

    go : (v : Bool) → is_register s.kind ≡ v → Contains (if v then k ∷ register_signals (k + 1) ss else register_signals (k + 1) ss) n
        → (Contains (register_signals (k + 1) ss) n → (j : ℕ) × (q : Signal) × (n ≡ (k + 1) + j) × (slice_get ss j ≡ Some q) × (is_register q.kind ≡ true))
        → (j : ℕ) × (q : Signal) × (n ≡ k + j) × (slice_get (s ∷ ss) j ≡ Some q) × (is_register q.kind ≡ true)
    go true e c ih = elim (parts k (register_signals (k + 1) ss) n c) [
      | inl same ↦ (0, s, omega (arith, same), refl, e)
      | inr later ↦ further (ih later)
    ]
    go false e c ih = further (ih c)

next_is : (regs : List Reg) (r : Reg) → AreAscending regs → Contains regs r → next_cell regs r.sig ≡ Some r.next
next_is regs r up i =
    let (q, j, same, e) = found-register regs r.sig (has_next regs r i) in
    e ∙ ap (λ (p : Reg). Some p.next) (one q j same)
  where
    one : (q : Reg) (j : Contains regs q) → q.sig ≡ r.sig → q ≡ r
    one q j same = elim (cases_lt i.0 j.0) [
      | inl l ↦ absurd (let m = up i.0 j.0 r q l (in_slice regs r i) (in_slice regs q j) in omega (arith, m, same))
      | inr l ↦ elim (cases_lt j.0 i.0) [
        | inl m ↦ absurd (let n = up j.0 i.0 q r m (in_slice regs q j) (in_slice regs r i) in omega (arith, n, same))
        | inr m ↦ (let at : j.0 ≡ i.0 = omega arith in let f : Some q ≡ Some r = sym (in_slice regs q j) ∙ ap (slice_get regs) at ∙ in_slice regs r i in cc)
      ]
    ]

runs : (net : Net) → IsNet net → HasNextCells net → HasCells net
runs net is next = record {
  graph = is.graph;
  ascending = net_ascends net is;
  kinds = λ r i.
      let (j, s, at, there, kind) = of_kind 0 net.graph.signals r.sig (subst (λ xs. Contains xs r.sig) is.registers (in_map (λ (q : Reg). q.sig) net.regs r i)) in
      let here : slice_get net.graph.signals r.sig ≡ Some s = ap (slice_get net.graph.signals) (let f : r.sig ≡ j = omega (arith, at) in f) ∙ there in
      ap (λ (o : Option Signal). option_map_or (λ (p : Signal). is_register p.kind) o false) here ∙ kind;
  registers = λ r i. next r.sig r.next (next_is net.regs r (net_ascends net is) i);
}

pub can_open : (net : Net) (domains : Domains) → CanReplay net domains → CanOpen net domains
can_open net domains can = record { cells = runs net can.is_net can.next_cells; fit = can.fit; numbered = can.read.signals; starts = can.starts }

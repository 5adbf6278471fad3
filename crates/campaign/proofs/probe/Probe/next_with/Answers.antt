-- The register's next value is that of the net's trees with the bit at its other value.
use Rattle.std.proofs.Common.{◌≡◌, ◌∙◌, ap, ap₂, refl, sym, subst, arith, ℕ, zero, suc, ◌<◌, false, true, List, [], ◌∷◌, length, Option, Some, None}
use Rattle.std.proofs.lemmas.Grind.{common_steps}
use Rattle.std.specs.Prelude.{All, is_some}
use Rattle.std.specs.Option.{option_map, option_map_or}
use Rattle.cdc_base.specs.declared.bit.Bit.{Bit}
use Rattle.cell_graph.specs.declared.cell.CellId.{CellId}
use Rattle.cell_graph.specs.declared.cell.Node.{Node}
use Rattle.cell_graph.specs.declared.net.Net.{Net}
use Rattle.cell_graph.specs.Tree.{bit_at}
use Rattle.cell_graph.specs.Values.{AreWordsOf, values_of, word_at}
use Rattle.cdc_model.specs.Nets.{is_within, next_cell, next_node_of}
use Rattle.settling_sim.specs.Runs.{HasCells}
use Rattle.settling_sim.specs.Words.{flip_in}
use Rattle.settling_sim.proofs.Values.{found-register, next-flipped, flip-words, next-of, place-of}
use Rattle.campaign.specs.Room.{IsConeOf}
use Rattle.campaign.proofs.probe.Probe.next_with.Goals as goal

one : (net : Net) (b : Bit) → is_within net b ≡ true → All (λ a. is_within net a ≡ true) (b ∷ [])
one net b h zero d l = h
one net b h (suc i) d l = absurd (omega arith)

-- a register's next value is a cell of the net
node-there : (net : Net) (b : Bit) (node : Node) → HasCells net → Some node ≡ next_node_of net b → node.cell.0 < length net.graph.cells
node-there net b node runs is = go (next_cell net.regs b.sig) refl is
  where
    go : (o : Option CellId) → next_cell net.regs b.sig ≡ o → Some node ≡ option_map (λ (d : CellId). let n : Node = record { cell = d; at = b.at } in n) o → node.cell.0 < length net.graph.cells
    go None e h = cc
    go (Some cell) e h =
        let found = found-register net.regs b.sig (ap (λ (o : Option CellId). is_some o) e) in
        let both : Some found.0.next ≡ Some cell = sym found.3 ∙ e in
        let same : found.0.next ≡ node.cell = cc in
        subst (λ (d : CellId). d.0 < length net.graph.cells) same (runs.registers found.0 found.1).0

pub returns-clause-value : goal.returns-clause-value
returns-clause-value c = λ runs room are within register.
    let net = c.args.net.now in
    let words = c.args.words.now in
    let bits : List Bit = c.args.flipped ∷ [] in
    let other = flip_in words words bits in
    let all = one net c.args.flipped within in
    let place = place-of net words c.args.flipped runs are.counted within in
    let next = next-of net c.args.bit runs register in
    let found = c.in-Some.ensures runs.ascending ∙ ap (option_map (λ (d : CellId). let n : Node = record { cell = d; at = c.args.bit.at } in n)) next.is in
    let node : c.in-Some.node ≡ record { cell = next.cell; at = c.args.bit.at } = cc in
    let cell : c.in-Some.node.cell ≡ next.cell = ap (λ (n : Node). n.cell) node in
    let there : c.in-Some.node.cell.0 < length net.graph.cells = subst (λ (d : CellId). d.0 < length net.graph.cells) (sym cell) next.there in
    let kept = c.in_ok-look_below.ensures.room runs.graph there room in
    let cone : IsConeOf net.graph c.in-Some.node.cell c.as_slice.result.now
    = subst (λ (cs : List CellId). IsConeOf net.graph c.in-Some.node.cell cs) (sym c.as_slice.ensures.value) (kept.cone c.in-Some.node.cell c.in_ok-look_below.ensures.top) in
    let entered : c.deref_mut.result.now ≡ c.look_below.new.self.values.items = c.deref_mut.ensures.value in
    let filled = c.fill_cells.ensures.filled runs.graph (flip-words net words words bits runs are all) place.0 (ap length entered ∙ kept.values) c.in-Some.node.cell cone in
    let passed : c.as_slice-2.result.now ≡ c.fill_cells.new.values = grind (arith, common_steps, c.as_slice-2.ensures.value, c.fill_cells.ensures.counted, c.deref_mut.ensures.len) in
    let value : c.word_at-value.result ≡ word_at (values_of net.graph other) next.cell.0
    = c.word_at-value.ensures ∙ ap (λ (vs : List ℕ). word_at vs c.in-Some.node.cell.0) passed ∙ filled ∙ ap (λ (d : CellId). word_at (values_of net.graph other) d.0) cell in
    c.has_bit.ensures
    ∙ ap₂ bit_at value (ap (λ (n : Node). n.at) node)
    ∙ ap (λ (o : Option CellId). option_map_or (λ (d : CellId). bit_at (word_at (values_of net.graph other) d.0) c.args.bit.at) o false) (sym next.is)
    ∙ next-flipped net words bits c.args.bit runs are all register

pub returns-clause-room : goal.returns-clause-room
returns-clause-room c = λ runs room.
    let net = c.args.net.now in
    let there : c.in-Some.node.cell.0 < length net.graph.cells = node-there net c.args.bit c.in-Some.node runs (c.in-Some.ensures runs.ascending) in
    let kept = c.in_ok-look_below.ensures.room runs.graph there room in
    let entered : c.deref_mut.result.now ≡ c.look_below.new.self.values.items = c.deref_mut.ensures.value in
    let passed : c.as_slice-2.result.now ≡ c.fill_cells.new.values = grind (arith, common_steps, c.as_slice-2.ensures.value, c.fill_cells.ensures.counted, c.deref_mut.ensures.len) in
    record {
      values = sym (ap length c.as_slice-2.ensures.value) ∙ ap length passed ∙ c.fill_cells.ensures.counted ∙ ap length entered ∙ kept.values;
      cone = kept.cone;
    }

pub returns-in_default-clause-value : goal.returns-in_default-clause-value
returns-in_default-clause-value c = λ runs room are within register.
    let next = next-of c.args.net.now c.args.bit runs register in
    let none = c.in_default.ensures runs.ascending ∙ ap (option_map (λ (d : CellId). let n : Node = record { cell = d; at = c.args.bit.at } in n)) next.is in
    cc

use Rattle.std.proofs.Common.{arith, ◌≤◌, ◌⊎◌, sym, subst, length}
use Rattle.std.specs.List.{Contains}
use Rattle.cell_graph.specs.declared.cell.CellId.{CellId}
use Rattle.cell_graph.specs.Cells.{cell_at}
use Rattle.cell_graph.specs.Below.{IsOperand, root}
use Rattle.cell_graph.proofs.CellValues.{none-past}
use Rattle.cell_graph.proofs.Cones.{get_contains, below-within, more_closed, more_below}
use Rattle.cell_graph.proofs.graph.Graph.cells_below.Goals.{else-loop-place-test, then-loop-place-test+in_default}
use Rattle.cell_graph.proofs.graph.Graph.cells_below.Goals as goal

pub loop-place-init : goal.loop-place-init
loop-place-init c = record {
  roots = c.in_ok-cone.ensures.there;
  closed = λ k d x lt at op. absurd (omega arith);
  below = λ d h. root (c.in_ok-cone.ensures.only d h);
}

pub loop-place-preserved : goal.loop-place-preserved
loop-place-preserved c =
    let there = λ (d : CellId) (op : IsOperand (cell_at c.args.self.now c.in-Some.cell) d). c.in_ok-meet_operands.ensures.there d (subst (λ e. IsOperand e d) (sym c.cell.ensures) op) in
    let only = λ (d : CellId) (h : Contains c.meet_operands.new.self d). subst (λ e. Contains c.loop-place.cone d ⊎ IsOperand e d) c.cell.ensures (c.in_ok-meet_operands.ensures.only d h) in
    record {
      roots = λ d h. c.in_ok-meet_operands.ensures.kept d (c.loop-place.invariant.roots d h);
      closed = more_closed c.args.self.now c.args.roots.now c.loop-place.cone c.meet_operands.new.self c.loop-place.place c.in-Some.cell (sym c.in-Some.ensures)
          c.in_ok-meet_operands.ensures.places c.in_ok-meet_operands.ensures.kept there only c.loop-place.invariant.closed;
      below = more_below c.args.self.now c.args.roots.now c.loop-place.cone c.meet_operands.new.self c.loop-place.place c.in-Some.cell (sym c.in-Some.ensures)
          c.in_ok-meet_operands.ensures.places c.in_ok-meet_operands.ensures.kept there only c.loop-place.invariant.below;
    }

pub returns-clause-closed : goal.returns-clause-closed
returns-clause-closed c =
    let short = c.into_ascending.ensures.short in
    let past : length c.loop-place.cone ≤ c.loop-place.place = elim c.loop-place-test.branch [
      | else-loop-place-test w ↦ let f = w.loop-place-test.false in omega arith
      | then-loop-place-test+in_default w ↦ none-past c.loop-place.cone c.loop-place.place (sym w.in_default.ensures)
    ] in
    λ d x h op.
    let at = get_contains c.loop-place.cone d (c.into_ascending.ensures.only d h) in
    c.into_ascending.ensures.there x (c.loop-place.invariant.closed at.0 d x (let l = at.1 in omega arith) at.2 op)

pub returns-clause-within : goal.returns-clause-within
returns-clause-within c = λ well roots d h.
    below-within c.args.self.now c.args.roots.now well roots d (c.loop-place.invariant.below d (c.into_ascending.ensures.only d h))

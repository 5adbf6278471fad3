-- One bit more is a read, or isn't.
use Rattle.std.proofs.Common.{◌≤◌, ◌<◌, ◌∙◌, ◌+◌, sym, subst, ap, arith, refl, Some, length}
use Rattle.cell_graph.specs.declared.cell.Node.{Node}
use Rattle.cell_graph.specs.Cells.{cell_width}
use Rattle.cell_graph.specs.Unfolded.{IsNodeOf, bit_of}
use Rattle.domains.specs.declared.Domains.{Domains}
use Rattle.cdc_model.specs.Nets.{bit_count, design_of}
use Rattle.fifo_laws.specs.Sides.{Side}
use Rattle.fifo_parts.specs.Tellers.{IsShown}
use Rattle.gray_pointer.specs.Words.{IsPlain}
use Rattle.fifo_ways.specs.Chosen.{IsChosen}
use Rattle.fifo_ways.specs.Steps.{AreConditions}
use Rattle.fifo_ways.proofs.Conditions.{no_conditions}
use Rattle.fifo_parts.specs.Words.{AreReadsAmong, CountsBy, IsBeforeAt}
use Rattle.fifo_parts.proofs.ReadCells.{bit_none, bit_read, cell_begins, cell_ends}
use Rattle.fifo_parts.proofs.reads.add_reads.Goals as goal
use Rattle.fifo_parts.proofs.reads.add_reads.Goals.{In_ok-words}

pub loop-at-init : goal.loop-at-init
loop-at-init c = record {
  reads = λ domains shown inside by_count before.
      let net = c.args.net.now in
      let plain : IsPlain net.graph = record { well = shown.is_net.graph; shared = shown.is_shared } in
      cell_begins net domains plain c.args.cell c.args.reads.now before;
  conditions = λ domains s shown inside by.
      subst (AreConditions c.args.net.now.graph (design_of c.args.net.now domains) s) (sym c.new-conditions.ensures)
      (no_conditions c.args.net.now.graph (design_of c.args.net.now domains) s);
}

-- what was found of one bit
of_bit : (c : In_ok-words) (domains : Domains) (s : Side) → IsShown c.args.net.now c.args.table.now → c.args.cell.0 < length c.args.net.now.graph.cells → CountsBy c.args.net.now domains c.args.count s
    → IsChosen (design_of c.args.net.now domains) s (Some (bit_of c.args.net.now.graph (record { cell = c.args.cell; at = c.loop-at.at }))) c.in_ok-words.field-0
    × AreConditions c.args.net.now.graph (design_of c.args.net.now domains) s c.chosen.new.conditions
of_bit c domains s shown inside by =
    let net = c.args.net.now in
    let plain : IsPlain net.graph = record { well = shown.is_net.graph; shared = shown.is_shared } in
    let node : Node = record { cell = c.args.cell; at = c.loop-at.at } in
    let there : IsNodeOf net.graph node = (inside, omega (arith, c.loop-at-test.true, c.width-at-end.ensures)) in
    let width = ap (bit_count net.graph.signals) by.0 ∙ sym c.width_of-width.ensures in
    let low = c.if-width-lt2.false in
    let high = c.if-width-gt-MAX_WIDTH.false in
    let so_far = c.loop-at.invariant.conditions domains s shown inside by in (
      c.in_ok-words.ensures.exact domains s plain shown.shows there by.0 width (omega arith) (omega arith) so_far,
      c.in_ok-words.ensures.conditions domains s plain shown.shows there by.0 width (omega arith) (omega arith) so_far,
    )

pub loop-at-preserved-in_default : goal.loop-at-preserved-in_default
loop-at-preserved-in_default c = record {
  reads = λ domains shown inside by_count before.
      let net = c.args.net.now in
      let plain : IsPlain net.graph = record { well = shown.is_net.graph; shared = shown.is_shared } in
      let at = c.loop-at.at in
      let node : Node = record { cell = c.args.cell; at = at } in
      bit_none net domains plain c.args.cell at c.loop-at.reads (λ s words there by read.
      subst (IsChosen (design_of net domains) s (Some (bit_of net.graph node))) c.in_default.is
      (of_bit (goal.at.loop-at-preserved-in_default c).In_ok-words domains s shown inside (by_count node s words refl there by read, by.1, by.2)).0 words read.0 read.1)
      (c.loop-at.invariant.reads domains shown inside by_count before);
  conditions = λ domains s shown inside by. (of_bit (goal.at.loop-at-preserved-in_default c).In_ok-words domains s shown inside by).1;
}

pub loop-at-preserved : goal.loop-at-preserved
loop-at-preserved c = record {
  reads = λ domains shown inside by_count before.
      let net = c.args.net.now in
      let plain : IsPlain net.graph = record { well = shown.is_net.graph; shared = shown.is_shared } in
      let at = c.loop-at.at in
      let node : Node = record { cell = c.args.cell; at = at } in
      let there : IsNodeOf net.graph node = (inside, omega (arith, c.loop-at-test.true, c.width-at-end.ensures)) in
      subst (AreReadsAmong net domains (IsBeforeAt c.args.cell (at + 1))) (sym c.in_ok-push.ensures.pushed)
      (bit_read net domains plain c.args.cell at c.args.count c.in-Some.words c.loop-at.reads by_count there (λ s by.
      subst (IsChosen (design_of net domains) s (Some (bit_of net.graph node))) c.in-Some.is (of_bit (goal.at.loop-at-preserved c).In_ok-words domains s shown inside by).0)
      (c.loop-at.invariant.reads domains shown inside by_count before));
  conditions = λ domains s shown inside by. (of_bit (goal.at.loop-at-preserved c).In_ok-words domains s shown inside by).1;
}

pub returns : goal.returns
returns c = λ domains shown inside by_count before.
    let net = c.args.net.now in
    let plain : IsPlain net.graph = record { well = shown.is_net.graph; shared = shown.is_shared } in
    let le : cell_width net.graph c.args.cell ≤ c.loop-at.at = omega (arith, c.loop-at-test.false, c.width-at-end.ensures) in
    cell_ends net domains plain c.args.cell c.loop-at.at le c.loop-at.reads (c.loop-at.invariant.reads domains shown inside by_count before)

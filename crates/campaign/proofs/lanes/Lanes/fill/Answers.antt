use Rattle.std.proofs.Common.{arith, ◌≡◌, ◌∙◌, length, ap, get_or, refl}
use Rattle.cell_graph.specs.declared.cell.CellId.{CellId}
use Rattle.cell_graph.specs.Cells.{cell_width, cell_at}
use Rattle.cell_graph.specs.Values.{cell_word}
use Rattle.cell_graph.proofs.CellValues.{one_more, all_values}
use Rattle.campaign.specs.Lanes.{lane}
use Rattle.campaign.proofs.LaneRows.{lane-set, length-lane}
use Rattle.campaign.proofs.lanes.Lanes.fill.Goals as goal

pub loop-place-preserved : goal.loop-place-preserved
loop-place-preserved c = record {
  opened = c.put_row.ensures.length ∙ c.loop-place.invariant.opened;
  filled = λ well len i small fit a h.
      let n : length c.loop-place.self-inside.rows.items ≡ length c.args.graph.now.cells = c.loop-place.invariant.opened ∙ len in
      let m = length-lane i c.loop-place.self-inside.rows.items in
      let is : CellId = record { 0 = c.loop-place.place } in
      let e = c.cell_count-place-end.ensures in
      let lt = c.loop-place-test.true in
      one_more c.args.graph.now well (lane i c.args.words.now) fit (lane i c.loop-place.self-inside.rows.items) c.loop-place.place (m ∙ n) (omega arith)
      (c.loop-place.invariant.filled well len i small fit) (get_or c.values_of-values.result i 0) (lane i c.put_row.new.rows.items)
      (ap (lane i) (c.put_row.ensures.stored (omega arith)) ∙ lane-set i c.loop-place.self-inside.rows.items c.loop-place.place c.values_of-values.result)
      is refl (c.values_of-values.ensures i small ∙ ap (λ rs. cell_word c.args.graph.now (lane i c.args.words.now) (lane i rs) (cell_width c.args.graph.now is) (cell_at c.args.graph.now is)) c.as_slice.ensures.value) a h;
}

pub returns-clause-filled : goal.returns-clause-filled
returns-clause-filled c = λ well len i small fit.
    let n : length c.loop-place.self-inside.rows.items ≡ length c.args.graph.now.cells = c.loop-place.invariant.opened ∙ ap length c.self.view_is ∙ len in
    let m = length-lane i c.loop-place.self-inside.rows.items in
    let e = c.cell_count-place-end.ensures in
    let le = c.loop-place-test.false in
    all_values c.args.graph.now (lane i c.args.words.now) (lane i c.loop-place.self-inside.rows.items) c.loop-place.place (m ∙ n) (omega arith)
    (c.loop-place.invariant.filled well (ap length c.self.view_is ∙ len) i small fit)

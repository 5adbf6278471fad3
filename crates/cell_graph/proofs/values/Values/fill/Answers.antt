use Rattle.std.proofs.Common.{arith, ◌≡◌, ◌∙◌, length, ap, refl}
use Rattle.cell_graph.specs.declared.cell.CellId.{CellId}
use Rattle.cell_graph.specs.Cells.{cell_width, cell_at}
use Rattle.cell_graph.specs.Values.{cell_word}
use Rattle.cell_graph.proofs.CellValues.{one_more, all_values}
use Rattle.cell_graph.proofs.values.Values.fill.Goals as goal

pub loop-place-preserved : goal.loop-place-preserved
loop-place-preserved c = record {
  opened = c.put_word.ensures.length ∙ c.loop-place.invariant.opened;
  filled = λ well fit len a h.
      let n : length c.loop-place.self-inside.words.items ≡ length c.args.graph.now.cells = c.loop-place.invariant.opened ∙ len in
      let is : CellId = record { 0 = c.loop-place.place } in
      let e = c.cell_count-place-end.ensures in
      let lt = c.loop-place-test.true in
      one_more c.args.graph.now well c.args.words.now fit c.loop-place.self-inside.words.items c.loop-place.place n (omega arith)
      (c.loop-place.invariant.filled well fit len) c.value_of-value.result c.put_word.new.words.items (c.put_word.ensures.stored (omega arith))
      is refl (c.value_of-value.ensures ∙ ap (λ vs. cell_word c.args.graph.now c.args.words.now vs (cell_width c.args.graph.now is) (cell_at c.args.graph.now is)) c.as_slice.ensures.value) a h;
}

pub returns-clause-filled : goal.returns-clause-filled
returns-clause-filled c = λ well fit len.
    let n : length c.loop-place.self-inside.words.items ≡ length c.args.graph.now.cells = c.loop-place.invariant.opened ∙ ap length c.self.view_is ∙ len in
    let e = c.cell_count-place-end.ensures in
    let le = c.loop-place-test.false in
    all_values c.args.graph.now c.args.words.now c.loop-place.self-inside.words.items c.loop-place.place n (omega arith)
    (c.loop-place.invariant.filled well fit (ap length c.self.view_is ∙ len))

-- The cell whose marks were added shows them.
use Rattle.std.proofs.Common.{arith, refl, sym, subst, ◌≡◌, ◌∙◌, ◌++◌, ◌∷◌, []}
use Rattle.std.proofs.lemmas.Grind.{common_steps}
use Rattle.cell_graph.specs.declared.cell.CellId.{CellId}
use Rattle.cell_graph.specs.Below.{IsOperand}
use Rattle.cdc_model.specs.Marked.{ShowsMarks}
use Rattle.cdc_model.proofs.Marked.{one_more}
use Rattle.cdc_model.proofs.below.Below.find.Goals as goal

pub loop-place-preserved : goal.loop-place-preserved
loop-place-preserved c =
    let pushed : c.add.new.self ≡ c.loop-place.below ++ c.of_cell-marks.result ∷ [] = c.in_ok-add.ensures in
    let id : CellId = record { 0 = c.loop-place.place } in
    let end = c.cell_count-place-end.ensures in
    let lt = c.loop-place-test.true in
    let counted = c.loop-place.invariant.counted in
    record {
      counted = grind (arith, common_steps, pushed, counted);
      shown = λ well a h. subst (λ below. ShowsMarks c.args.graph.now c.args.marks.now below a) (sym pushed)
          (one_more c.args.graph.now well c.args.marks.now c.loop-place.below c.loop-place.place counted (omega arith) (c.loop-place.invariant.shown well) id refl c.of_cell-marks.result
          (λ sig e. c.of_cell-marks.ensures.own sig (c.cell.ensures ∙ e))
          (λ x mark op k. c.of_cell-marks.ensures.operands x mark (subst (λ d. IsOperand d x) (sym c.cell.ensures) op) k) a h);
    }

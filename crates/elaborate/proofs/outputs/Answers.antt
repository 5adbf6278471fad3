use Rattle.std.proofs.Common.{◌<◌, ◌++◌, ◌+◌, ◌≡◌, [], ◌∙◌, sym, ap, subst, length, map, drop, All, arith, get_or}
use Rattle.cell_graph.specs.declared.cell.CellId.{CellId}
use Rattle.cell_graph.specs.Unfolded.{tree_of}
use Rattle.cell_graph.proofs.Trees.{length-push}
use Rattle.driver_trees.specs.Drafts.{tree_in, width_at}
use Rattle.elaborate.specs.Lowered.{IsDraftMet}
use Rattle.elaborate.proofs.Fits.{one-cell-more}
use Rattle.elaborate.proofs.Grown.{grows_trans}
use Rattle.elaborate.proofs.CellTrees.{met-kept}
use Rattle.elaborate.proofs.NetTrees.{drop-whole, one-tree-more}
use Rattle.std.proofs.lemmas.List.{append-nil}
use Rattle.std.proofs.lemmas.List.Elements.{All-get_or}
use Rattle.elaborate.proofs.outputs.Goals as goal

abbrev none : CellId
none = record { 0 = 0 }

pub loop-output-preserved : goal.loop-output-preserved
loop-output-preserved c =
    let inv = c.loop-output.invariant in
    let g = c.loop-output.lowering.graph in let h = c.output.new.self.graph in
    let k = c.loop-output.output-index in
    let ds = c.args.sketch.now.drafts in let items = c.args.sketch.now.outputs.items in
    let own = c.deref-output-items.result.now in let value = c.deref-output-items.ensures.value in
    let lt : k < length items = omega (arith, c.loop-output-test.true, ap length value) in
    record {
      grown = grows_trans c.args.lowering.now.graph g h inv.grown c.in_ok-cell.ensures.grown;
      same = c.in_ok-cell.ensures.trees ∙ inv.same;
      counted = let e = ap length c.in_ok-push.ensures.pushed in let l = length-push c.loop-output.outputs c.in_ok-cell.cell in omega (arith, e, l, inv.counted);
      stand = subst (All (λ (i : CellId). i.0 < length h.cells)) (sym c.in_ok-push.ensures.pushed)
          (one-cell-more g h c.in_ok-cell.ensures.grown c.loop-output.outputs c.in_ok-cell.cell inv.stand c.in_ok-cell.ensures.there);
      trees = λ sel met.
          let id = get_or own k none in
          let is = All-get_or (IsDraftMet sel ds c.args.lowering.now.graph c.args.lowering.now.trees.items) own k none c.loop-output-test.true
          (subst (All (IsDraftMet sel ds c.args.lowering.now.graph c.args.lowering.now.trees.items)) (sym value) met) in
          let now = subst (λ ts. IsDraftMet sel ds g ts id) (ap (λ v. v.items) (sym inv.same))
          (met-kept c.args.lowering.now.graph g inv.grown c.args.lowering.now.trees.items id.0 (tree_in sel ds id) (width_at ds id) is) in
          ap (λ outs. map (tree_of h) outs ++ map (tree_in sel ds) (drop (k + 1) items)) c.in_ok-push.ensures.pushed
          ∙ one-tree-more g h c.in_ok-cell.ensures.grown (tree_in sel ds) c.loop-output.outputs c.in_ok-cell.cell items k none inv.stand lt (c.in_ok-cell.ensures.tree (tree_in sel ds id) (width_at ds id) now ∙ ap (λ xs. tree_in sel ds (get_or xs k none)) value)
          ∙ inv.trees sel met;
    }

pub returns-clause-trees : goal.returns-clause-trees
returns-clause-trees c = λ sel met.
    let items = c.args.sketch.now.outputs.items in let t = tree_in sel c.args.sketch.now.drafts in
    let none_left : drop c.loop-output.output-index items ≡ [] = drop-whole items c.loop-output.output-index (omega (arith, c.loop-output-test.false, ap length c.deref-output-items.ensures.value)) in
    sym (append-nil (map (tree_of c.loop-output.lowering.graph) c.loop-output.outputs))
    ∙ ap (λ is. map (tree_of c.loop-output.lowering.graph) c.loop-output.outputs ++ map t is) (sym none_left) ∙ c.loop-output.invariant.trees sel met

use Rattle.std.proofs.Common.{◌≡◌, ◌<◌, ◌++◌, All, length, map, drop}
use Rattle.cell_graph.specs.declared.cell.CellId.{CellId}
use Rattle.cell_graph.specs.Unfolded.{tree_of}
use Rattle.driver_trees.specs.Drafts.{tree_in}
use Rattle.flat_meaning.specs.Trees.{Selects}
use Rattle.elaborate.specs.Grown.{Grows}
use Rattle.elaborate.specs.Lowered.{IsDraftMet}
use Rattle.elaborate.proofs.outputs.Given as goal

abbrev pub invariant-loop-output : goal.invariant-loop-output
invariant-loop-output l = record {
  grown : Grows l.initial.lowering.graph l.lowering.graph;
  same : l.lowering.trees ≡ l.initial.lowering.trees;
  counted : length l.outputs ≡ l.output-index;
  stand : All (λ (o : CellId). o.0 < length l.lowering.graph.cells) l.outputs;
  trees : (sel : Selects) → All (IsDraftMet sel l.sketch.drafts l.initial.lowering.graph l.initial.lowering.trees.items) l.sketch.outputs.items
      → map (tree_of l.lowering.graph) l.outputs ++ map (tree_in sel l.sketch.drafts) (drop l.output-index l.sketch.outputs.items) ≡ map (tree_in sel l.sketch.drafts) l.sketch.outputs.items;
}

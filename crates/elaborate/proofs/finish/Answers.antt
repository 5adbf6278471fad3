use Rattle.std.proofs.Common.{◌∙◌, sym, ap, subst, map, All}
use Rattle.std.proofs.lemmas.List.Elements.{All-weaker}
use Rattle.cell_graph.specs.Cells.{Cells}
use Rattle.cell_graph.specs.Unfolded.{tree_of}
use Rattle.driver_trees.specs.Drafts.{tree_in, width_at}
use Rattle.elaborate.specs.Lowered.{IsDraftMet}
use Rattle.elaborate.specs.NetTrees.{IsRegisterOf}
use Rattle.elaborate.specs.Words.{IsRegOf}
use Rattle.elaborate.proofs.Fits.{regs-kept}
use Rattle.elaborate.proofs.CellTrees.{met-kept}
use Rattle.elaborate.proofs.NetTrees.{register-kept}
use Rattle.elaborate.proofs.finish.Goals as goal

pub returns-clause-fit : goal.returns-clause-fit
returns-clause-fit c =
    subst (λ (g : Cells). All (IsRegOf g) c.in_ok-regs.regs) (sym c.into_graph.ensures.same)
    (regs-kept c.registers.new.lowering.graph c.outputs.new.lowering.graph c.in_ok-outputs.ensures.grown c.in_ok-regs.regs c.in_ok-regs.ensures.fit)

pub returns-clause-trees : goal.returns-clause-trees
returns-clause-trees c = λ f sel can met.
    let s = c.args.sketch.now in let g = c.registers.new.lowering.graph in let h = c.outputs.new.lowering.graph in
    let registers = All-weaker (IsRegisterOf f sel g) (IsRegisterOf f sel h) (register-kept f sel g h c.in_ok-outputs.ensures.grown) c.in_ok-regs.regs (c.in_ok-regs.ensures.trees f sel can met) in
    let outputs = All-weaker (IsDraftMet sel s.drafts c.args.lowering.graph c.args.lowering.trees.items) (IsDraftMet sel s.drafts g c.registers.new.lowering.trees.items)
    (λ o is. subst (λ ts. IsDraftMet sel s.drafts g ts o) (ap (λ v. v.items) (sym c.in_ok-regs.ensures.same))
    (met-kept c.args.lowering.graph g c.in_ok-regs.ensures.grown c.args.lowering.trees.items o.0 (tree_in sel s.drafts o) (width_at s.drafts o) is)) s.outputs.items met.outputs in
    record {
      registers = subst (λ (k : Cells). All (IsRegisterOf f sel k) c.in_ok-regs.regs) (sym c.into_graph.ensures.same) registers;
      outputs = ap (λ k. map (tree_of k) c.in_ok-outputs.outputs) c.into_graph.ensures.same ∙ c.in_ok-outputs.ensures.trees sel outputs ∙ can.sketch.outputs sel;
    }

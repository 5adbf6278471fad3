use Rattle.std.proofs.Common.{◌≡◌, ◌++◌, All, map, drop}
use Rattle.cell_graph.specs.declared.net.Reg.{Reg}
use Rattle.driver_trees.specs.declared.sketch.Register.{Register}
use Rattle.flat_meaning.specs.Design.{Flat}
use Rattle.flat_meaning.specs.Trees.{Selects}
use Rattle.elaborate.specs.Grown.{Grows}
use Rattle.elaborate.specs.Lowered.{AreMet, CanLower}
use Rattle.elaborate.specs.NetTrees.{IsRegisterOf}
use Rattle.elaborate.specs.Words.{IsRegOf}
use Rattle.elaborate.proofs.registers.Given as goal

abbrev pub invariant-loop-register : goal.invariant-loop-register
invariant-loop-register l = record {
  signals : l.lowering.graph.signals ≡ l.initial.lowering.graph.signals;
  same : l.lowering.trees ≡ l.initial.lowering.trees;
  grown : Grows l.initial.lowering.graph l.lowering.graph;
  names : map (λ (r : Reg). r.sig) l.regs ++ map (λ (r : Register). r.sig) (drop l.register-index l.sketch.registers.items) ≡ map (λ (r : Register). r.sig) l.sketch.registers.items;
  fit : All (IsRegOf l.lowering.graph) l.regs;
  trees : (f : Flat) (sel : Selects) → CanLower f sel l.sketch.drafts l.sketch l.initial.lowering.graph.signals
      → AreMet sel l.sketch.drafts l.sketch l.initial.lowering.graph l.initial.lowering.trees.items → All (IsRegisterOf f sel l.lowering.graph) l.regs;
}

use Rattle.std.proofs.Common.{◌≡◌, ◌++◌, drop, map}
use Rattle.cell_graph.specs.declared.cell.CellId.{CellId}
use Rattle.elaborate.specs.Counts.{register_roots, root_ids}
use Rattle.elaborate.proofs.roots_of.Given as goal

abbrev pub invariant-loop-register : goal.invariant-loop-register
invariant-loop-register l = l.roots.items ++ register_roots (drop l.register-index l.sketch.registers.items) ≡ register_roots l.sketch.registers.items

abbrev pub invariant-loop-output : goal.invariant-loop-output
invariant-loop-output l = l.roots.items ++ map (λ (o : CellId). o.0) (drop l.output-index l.sketch.outputs.items) ≡ root_ids l.sketch

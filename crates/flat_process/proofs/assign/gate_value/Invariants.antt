use Rattle.std.specs.Prelude.{map, drop, All}
use Rattle.verilog_reading.specs.ExprTree.{tree_of}
use Rattle.flat_unfolding.specs.Names.{Look}
use Rattle.flat_unfolding.specs.Formed.{IsFormed}
use Rattle.flat_names.specs.Looks.{Shows, IsFit}
use Rattle.flat_process.proofs.Wires.{InputsSoFar}
use Rattle.flat_process.proofs.assign.gate_value.Given as goal

abbrev pub invariant-loop-input : goal.invariant-loop-input
invariant-loop-input l = (k : Look) → Shows l.look k → IsFit k → All IsFormed (map tree_of l.inputs) → InputsSoFar k l.kind l.inputs (drop l.input-index l.inputs) l.bits.items l.initial.faults l.faults

use Rattle.std.specs.Prelude.{map, drop, All}
use Rattle.verilog_reading.specs.StmtTree.{label_tree_of}
use Rattle.flat_unfolding.specs.Names.{Look}
use Rattle.flat_unfolding.specs.Formed.{IsLabelFormed}
use Rattle.flat_unfolding.specs.Statements.{Kind}
use Rattle.flat_names.specs.Looks.{Shows, IsFit}
use Rattle.flat_statements.proofs.Loops.{LabelsSoFar}
use Rattle.flat_statements.proofs.statement.labels.Given as goal

abbrev pub invariant-loop-label : goal.invariant-loop-label
invariant-loop-label l = (k : Look) (m : Kind) → Shows l.look k → IsFit k → All IsLabelFormed (map label_tree_of l.labels) → LabelsSoFar k m l.labels (drop l.label-index l.labels) l.parts l.initial.faults l.faults

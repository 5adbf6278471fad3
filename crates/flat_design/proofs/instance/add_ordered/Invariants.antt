use Rattle.std.proofs.Common.{[], map, drop}
use Rattle.std.specs.Prelude.{All}
use Rattle.verilog_reading.specs.ExprTree.{tree_of}
use Rattle.verilog_reading.specs.SourceTree.{maybe}
use Rattle.flat_unfolding.specs.Names.{Look}
use Rattle.flat_unfolding.specs.Expressions.{as_constant, read}
use Rattle.flat_unfolding.specs.Instances.{Joint, ordered_joints}
use Rattle.flat_unfolding.specs.Formed.{IsFormedIf}
use Rattle.flat_names.specs.Looks.{Shows, IsFit}
use Rattle.flat_design.specs.Visiting.{AreOverridden}
use Rattle.flat_design.proofs.Joints.{SoFar}
use Rattle.flat_design.proofs.instance.add_ordered.Given as goal

abbrev pub invariant-loop-k : goal.invariant-loop-k
invariant-loop-k l = (k : Look) → Shows l.look k → IsFit k → All IsFormedIf (map (maybe tree_of) l.values) → AreOverridden k [] l.initial.overridden
    → SoFar (AreOverridden k) (λ (j : Joint). (as_constant (read k j.value)).broken) (ordered_joints l.names (map (maybe tree_of) l.values)) (ordered_joints (drop l.k l.names) (map (maybe tree_of) (drop l.k l.values)))
    l.overridden l.initial.faults l.faults

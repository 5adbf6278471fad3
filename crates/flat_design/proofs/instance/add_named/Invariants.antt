use Rattle.std.proofs.Common.{List, [], map, drop}
use Rattle.std.specs.Prelude.{filter_map}
use Rattle.verilog_reading.specs.SourceTree.{conn_of, named}
use Rattle.flat_unfolding.specs.Outcome.{Text}
use Rattle.flat_unfolding.specs.Names.{Look}
use Rattle.flat_unfolding.specs.Expressions.{as_constant, read}
use Rattle.flat_unfolding.specs.Instances.{Joint, named_joint}
use Rattle.flat_unfolding.specs.Formed.{AreConnsFormed}
use Rattle.flat_names.specs.Looks.{Shows, IsFit}
use Rattle.flat_declarations.specs.Declaring.{ShowsHeader}
use Rattle.flat_design.specs.Visiting.{AreOverridden}
use Rattle.flat_design.proofs.Joints.{SoFar}
use Rattle.flat_design.proofs.instance.add_named.Given as goal

abbrev pub invariant-loop-conn : goal.invariant-loop-conn
invariant-loop-conn l = (k : Look) (names : List Text) → Shows l.look k → IsFit k → ShowsHeader l.known names → AreConnsFormed (named (map conn_of l.conns)) → AreOverridden k [] l.initial.overridden
    → SoFar (AreOverridden k) (λ (j : Joint). (as_constant (read k j.value)).broken) (filter_map (named_joint names) (map conn_of l.conns)) (filter_map (named_joint names) (map conn_of (drop l.conn-index l.conns)))
    l.overridden l.initial.faults l.faults

use Rattle.std.proofs.Common.{List, map, drop}
use Rattle.verilog_reading.specs.SourceTree.{conn_of}
use Rattle.flat_unfolding.specs.Outcome.{Text}
use Rattle.flat_declarations.specs.Declaring.{ShowsHeader}
use Rattle.flat_design.proofs.Joints.{MetSoFar}
use Rattle.flat_design.proofs.instance.note_unmet.Given as goal

abbrev pub invariant-loop-conn : goal.invariant-loop-conn
invariant-loop-conn l = (names : List Text) → ShowsHeader l.known names → MetSoFar ShowsHeader l.word names (map conn_of l.conns) (map conn_of (drop l.conn-index l.conns)) l.seen l.initial.faults l.faults

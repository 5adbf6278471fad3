use Rattle.std.proofs.Common.{map, drop}
use Rattle.verilog_reading.specs.SourceTree.{conn_of, ModuleTree}
use Rattle.flat_unfolding.specs.Declarations.{header_of}
use Rattle.flat_declarations.specs.Declaring.{ShowsHeader}
use Rattle.flat_design.specs.Visiting.{ShowsPorts}
use Rattle.flat_design.proofs.Joints.{MetSoFar}
use Rattle.flat_design.proofs.instance.note_unknown_ports.Given as goal

abbrev pub invariant-loop-conn : goal.invariant-loop-conn
invariant-loop-conn l = (m : ModuleTree) → ShowsPorts l.ports m → MetSoFar ShowsHeader l.word (header_of m) (map conn_of l.conns) (map conn_of (drop l.conn-index l.conns)) l.seen l.initial.faults l.faults

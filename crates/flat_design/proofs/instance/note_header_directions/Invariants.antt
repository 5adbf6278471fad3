use Rattle.std.proofs.Common.{◌≡◌, map, drop}
use Rattle.std.specs.Prelude.{filter_map}
use Rattle.verilog_reading.specs.SourceTree.{PortTree, port_of}
use Rattle.flat_unfolding.specs.Outcome.{Text}
use Rattle.flat_design.specs.Visiting.{port_in, sides_with}
use Rattle.flat_design.proofs.instance.note_header_directions.Given as goal

abbrev pub invariant-loop-port : goal.invariant-loop-port
invariant-loop-port l = (x : Text) → sides_with (filter_map (λ (p : PortTree). p.decl) (map port_of (drop l.port-index l.header))) x (port_in l.ports x)
    ≡ sides_with (filter_map (λ (p : PortTree). p.decl) (map port_of l.header)) x (port_in l.initial.ports x)

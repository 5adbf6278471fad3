use Rattle.std.proofs.Common.{◌≡◌, cond, map, drop, Some, None}
use Rattle.cdc_base.specs.Words.{is_in}
use Rattle.verilog_reading.specs.SourceTree.{PortTree, port_of}
use Rattle.flat_unfolding.specs.Outcome.{Text}
use Rattle.flat_design.specs.Visiting.{port_in}
use Rattle.flat_design.proofs.instance.header_ports.Given as goal

abbrev pub invariant-loop-port : goal.invariant-loop-port
invariant-loop-port l = (x : Text) → cond (is_in (map (λ (p : PortTree). p.name) (map port_of (drop l.port-index l.header))) x) (Some None) (port_in l.ports x)
    ≡ cond (is_in (map (λ (p : PortTree). p.name) (map port_of l.header)) x) (Some None) None

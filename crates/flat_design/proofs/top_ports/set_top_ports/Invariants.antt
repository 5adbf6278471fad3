use Rattle.std.proofs.Common.{◌≡◌, List, length, map, drop}
use Rattle.cdc_base.specs.declared.signal.ResetPin.{ResetPin}
use Rattle.verilog_reading.specs.SourceTree.{PortTree, port_of}
use Rattle.flat_unfolding.specs.Design.{Stage}
use Rattle.flat_unfolding.specs.Unfolding.{top_ports}
use Rattle.flat_names.specs.Designs.{ShowsStage}
use Rattle.flat_design.specs.Visiting.{AreFitNames}
use Rattle.flat_design.proofs.top_ports.set_top_ports.Given as goal

abbrev pub invariant-loop-port : goal.invariant-loop-port
invariant-loop-port l = (pins : List ResetPin) (s : Stage) → ShowsStage pins l.names l.initial.design s → AreFitNames s.names (length s.design.entries)
    → (t : Stage) × (top_ports (map (λ (p : PortTree). p.name) (map port_of l.port-items)) s ≡ top_ports (map (λ (p : PortTree). p.name) (map port_of (drop l.port-index l.port-items))) t)
    × ShowsStage pins l.names l.design t × AreFitNames t.names (length t.design.entries)

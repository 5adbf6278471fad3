use Rattle.std.proofs.Common.{map, drop, List}
use Rattle.std.specs.Prelude.{All}
use Rattle.cdc_base.specs.declared.signal.ResetPin.{ResetPin}
use Rattle.verilog_reading.specs.SourceTree.{port_of}
use Rattle.flat_unfolding.specs.Design.{Stage, look_of}
use Rattle.flat_unfolding.specs.Formed.{IsPortFormed}
use Rattle.flat_names.specs.Looks.{IsFit}
use Rattle.flat_names.specs.Designs.{ShowsStage}
use Rattle.flat_design.proofs.HeaderValues.{values_of, AreDone}
use Rattle.flat_design.proofs.visit.add_header_values.Given as goal

abbrev pub invariant-loop-port : goal.invariant-loop-port
invariant-loop-port l = (pins : List ResetPin) (s : Stage) → ShowsStage pins l.names l.initial.design s → IsFit (look_of s) → All IsPortFormed (map port_of l.header)
    → AreDone l.place pins l.names l.design (map port_of (drop l.port-index l.header)) (values_of l.place (map port_of l.header) s)

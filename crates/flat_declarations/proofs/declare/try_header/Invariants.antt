use Rattle.std.proofs.Common.{◌≡◌, List}
use Rattle.cdc_base.specs.declared.signal.ResetPin.{ResetPin}
use Rattle.verilog_reading.specs.SourceTree.{module_of}
use Rattle.flat_unfolding.specs.Outcome.{each}
use Rattle.flat_unfolding.specs.Declarations.{header_of, directed}
use Rattle.flat_unfolding.specs.Design.{Stage}
use Rattle.flat_names.specs.Designs.{ShowsStage}
use Rattle.flat_declarations.proofs.Headers.{names_left}
use Rattle.flat_declarations.proofs.declare.try_header.Given as goal

abbrev pub invariant-loop-port : goal.invariant-loop-port
invariant-loop-port l = (pins : List ResetPin) (s : Stage) → ShowsStage pins l.names l.design s
    → each (directed (module_of l.module)) s (header_of (module_of l.module)) ≡ each (directed (module_of l.module)) s (names_left l.module l.port-index)

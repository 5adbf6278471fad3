use Rattle.std.proofs.Common.{List, length}
use Rattle.std.specs.List.{AllZip}
use Rattle.cdc_base.specs.declared.signal.ResetPin.{ResetPin}
use Rattle.flat_unfolding.specs.Names.{Names}
use Rattle.flat_unfolding.specs.Instances.{Link}
use Rattle.flat_unfolding.specs.Design.{Design}
use Rattle.flat_names.specs.Designs.{ShowsNames, ShowsDesign}
use Rattle.flat_design.specs.Visiting.{IsLinkOf, AreFitNames}
use Rattle.flat_design.proofs.Wired.{WiredSoFar}
use Rattle.flat_design.proofs.instance.add_connections.Given as goal

abbrev pub invariant-loop-connection : goal.invariant-loop-connection
invariant-loop-connection l = (pins : List ResetPin) (names : Names) (e : Design) (links : List Link) → ShowsNames l.inner names → ShowsDesign pins l.initial.design e → AreFitNames names (length e.entries)
    → AllZip (IsLinkOf pins l.ports) l.fn.connections.items links → WiredSoFar pins names l.ports e links l.design l.connection-iterator.rest.items

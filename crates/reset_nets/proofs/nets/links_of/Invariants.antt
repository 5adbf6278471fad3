use Rattle.std.proofs.Common.{List}
use Rattle.cdc_base.specs.declared.signal.ResetPin.{ResetPin}
use Rattle.flat_unfolding.specs.Design.{Design}
use Rattle.reset_nets.specs.Shown.{ShowsWires}
use Rattle.reset_nets.proofs.Shown.{HasLinks}
use Rattle.reset_nets.proofs.nets.links_of.Given as goal

abbrev pub invariant-loop-place : goal.invariant-loop-place
invariant-loop-place l = (pins : List ResetPin) (d : Design) → ShowsWires pins l.wires d → HasLinks pins d l.place l.links

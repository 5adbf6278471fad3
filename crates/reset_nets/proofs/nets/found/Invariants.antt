use Rattle.std.proofs.Common.{◌≡◌, List, true, take}
use Rattle.std.specs.List.{list_all}
use Rattle.cdc_base.specs.declared.signal.ResetPin.{ResetPin}
use Rattle.driver_loops.specs.Orders.{IsDepthFirst}
use Rattle.flat_form.specs.declared.flat.FlatAssign.{FlatAssign}
use Rattle.flat_form.specs.Sizes.{is_sized}
use Rattle.flat_unfolding.specs.Design.{Design}
use Rattle.reset_nets.specs.Shown.{ShowsWires, ShowsLinks, Finds}
use Rattle.reset_nets.proofs.nets.found.Given as goal

abbrev pub invariant-loop-sig : goal.invariant-loop-sig
invariant-loop-sig l = (pins : List ResetPin) (d : Design) → ShowsWires pins l.wires d → ShowsLinks pins d l.links
    → list_all (λ (a : FlatAssign). is_sized a.value) l.wires.assigns.now ≡ true → IsDepthFirst l.links l.order
    → Finds pins d (take l.sig-index l.order) l.levels.items

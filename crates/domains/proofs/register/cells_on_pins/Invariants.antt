use Rattle.std.proofs.Common.{◌≡◌, drop}
use Rattle.cell_graph.specs.Cells.{in_order}
use Rattle.domains.specs.Cones.{cells_on_pins, stands_on_pin}
use Rattle.domains.proofs.register.cells_on_pins.Given as goal

abbrev pub invariant-loop-place : goal.invariant-loop-place
invariant-loop-place l = cells_on_pins l.roles l.graph ≡ in_order (stands_on_pin l.roles) l.below.items (drop l.place l.graph.cells)

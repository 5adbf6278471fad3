use Rattle.std.proofs.Common.{List, Bool, subst, sym}
use Rattle.cdc_base.specs.declared.bit.Bit.{Bit}
use Rattle.domains.specs.Clocks.{pin_bits}
use Rattle.domains.specs.Cones.{AreClear}
use Rattle.domains.proofs.PinCones.{are_clear}
use Rattle.domains.proofs.register.Pins.open.Goals as goal

pub returns-clause-clear : goal.returns-clause-clear
returns-clause-clear c =
    let roles = c.args.roles.now in
    let graph = c.args.graph.now in
    subst (λ (bits : List Bit). AreClear graph bits c.in_ok-cells_on_pins.field-0.items) (sym c.in_ok-pin_bits.ensures)
    (subst (λ (below : List Bool). AreClear graph (pin_bits 0 roles) below) (sym c.in_ok-cells_on_pins.ensures) (are_clear roles graph))

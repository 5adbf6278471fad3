use Rattle.std.proofs.Common.{◌∙◌, sym, ap}
use Rattle.domains.specs.Clocks.{pin_at}
use Rattle.domains.proofs.PinOrigins.{pin_cell, pin_cell-other, pin-node}
use Rattle.domains.proofs.register.declared_clock.Goals as goal

pub returns-in-Var : goal.returns-in-Var
returns-in-Var g c = λ well is.
    let roles = c.args.roles.now in
    let graph = c.args.net.now.graph in
    c.pin_of.ensures ∙ ap (pin_cell roles) c.in-Var.ensures ∙ sym (pin-node roles graph well c.in_ok-origin.origin)
    ∙ ap (pin_at roles) (sym (c.in_ok-origin.ensures.origin well is))

pub returns-in_default : goal.returns-in_default
returns-in_default g c = λ well is.
    let roles = c.args.roles.now in
    let graph = c.args.net.now.graph in
    pin_cell-other roles c.cell.result c.in_default.not-Var ∙ ap (pin_cell roles) c.cell.ensures ∙ sym (pin-node roles graph well c.in_ok-origin.origin)
    ∙ ap (pin_at roles) (sym (c.in_ok-origin.ensures.origin well is))

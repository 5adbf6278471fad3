-- The cell is that of a signal, or the node is no bit of one.
use Rattle.std.proofs.Common.{◌∙◌, sym, refl}
use Rattle.cdc_model.specs.Nets.{design_of}
use Rattle.fifo_ways.proofs.Steps.{signal_found, no_signal}
use Rattle.fifo_ways.proofs.choice.signal_bit.Goals as goal

pub returns-in-Var : goal.returns-in-Var
returns-in-Var c = λ domains plain is.
    signal_found c.args.net.now.graph plain c.args.node is c.in_ok-node.node c.in_ok-node.was (design_of c.args.net.now domains) (λ sig. refl)
    c.in-Var.sig (sym c.cell.ensures ∙ c.in-Var.is)

pub returns-in_default : goal.returns-in_default
returns-in_default c = λ domains plain is.
    no_signal c.args.net.now.graph plain c.args.node is c.in_ok-node.node c.in_ok-node.was (design_of c.args.net.now domains) (λ sig. refl)
    (λ sig e. c.in_default.not-Var sig (c.cell.ensures ∙ e))

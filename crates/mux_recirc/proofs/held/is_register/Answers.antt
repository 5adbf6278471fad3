-- The bit's node, if its signal has a next value.
use Rattle.std.proofs.Common.{◌∙◌, ap, is_some}
use Rattle.cdc_model.proofs.Found.{net_ascends}
use Rattle.mux_recirc.proofs.held.is_register.Goals as goal

pub returns : goal.returns
returns c = λ is. c.is_some.ensures ∙ ap is_some (c.next_node.ensures (net_ascends c.args.net.now is))

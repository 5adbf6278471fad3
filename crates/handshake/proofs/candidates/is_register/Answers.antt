-- A bit has a next value where its signal has a cell for it.
use Rattle.std.proofs.Common.{◌∙◌, ap, is_some}
use Rattle.cdc_model.proofs.Found.{net_ascends}
use Rattle.handshake.proofs.Pairs.{has_node}
use Rattle.handshake.proofs.candidates.is_register.Goals as goal

pub returns : goal.returns
returns c = λ is. c.is_some.ensures ∙ ap is_some (c.next_node.ensures (net_ascends c.args.net.now is)) ∙ has_node c.args.net.now c.args.bit

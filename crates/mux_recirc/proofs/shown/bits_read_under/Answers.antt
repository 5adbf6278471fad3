-- The list of what the next value's node reads.
use Rattle.std.proofs.Common.{◌∙◌, sym}
use Rattle.cofactor.proofs.Places.{if_ok}
use Rattle.cdc_model.proofs.Found.{net_ascends}
use Rattle.mux_recirc.proofs.Tables.{reads-next, reads_none}
use Rattle.mux_recirc.proofs.shown.bits_read_under.Goals as goal

pub returns-in-Some-clause-exact : goal.returns-in-Some-clause-exact
returns-in-Some-clause-exact c = if_ok c.reads.result
    (λ read exact cube bits is has shown i l.
    reads-next c.args.net.now has cube c.args.table.now bits shown c.args.bit i l c.in-Some.node (sym (c.next_node.ensures (net_ascends c.args.net.now is)) ∙ c.in-Some.is) read (exact cube is.graph))
    c.reads.ensures.exact

pub returns-in-None-clause-exact : goal.returns-in-None-clause-exact
returns-in-None-clause-exact c = λ cube bits is has shown i l.
    reads_none c.args.net.now cube c.args.bit (sym (c.next_node.ensures (net_ascends c.args.net.now is)) ∙ c.in-None.is) _ c.new.ensures

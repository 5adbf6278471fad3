-- By the state bit that the table shows.
use Rattle.std.proofs.Common.{◌∙◌, sym}
use Rattle.cdc_model.proofs.Found.{net_ascends}
use Rattle.mux_recirc.proofs.Tables.{keeps_same, keeps_none, keeps_absent}
use Rattle.mux_recirc.proofs.shown.keeps_value.Goals as goal

pub returns-in-Some-same : goal.returns-in-Some-same
returns-in-Some-same c = λ cube bits is has shown i l.
    c.eq.ensures ∙ keeps_same c.args.net.now has cube c.args.table.now bits shown c.args.bit i l c.in-Some.node (sym (c.next_node.ensures (net_ascends c.args.net.now is)) ∙ c.in-Some.is)
    c.in-Some-same.same (sym c.same.ensures ∙ c.in-Some-same.is)

pub returns-in-None-same : goal.returns-in-None-same
returns-in-None-same c = λ cube bits is has shown i l.
    keeps_none c.args.net.now has cube c.args.table.now bits shown c.args.bit i l c.in-Some.node (sym (c.next_node.ensures (net_ascends c.args.net.now is)) ∙ c.in-Some.is)
    (sym c.same.ensures ∙ c.in-None-same.is)

pub returns-in-None : goal.returns-in-None
returns-in-None c = λ cube bits is has shown i l.
    keeps_absent c.args.net.now cube c.args.bit (sym (c.next_node.ensures (net_ascends c.args.net.now is)) ∙ c.in-None.is)

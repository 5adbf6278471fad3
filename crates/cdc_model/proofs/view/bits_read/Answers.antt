-- The list of what the next value's node reads.
use Rattle.std.proofs.Common.{◌∙◌, sym}
use Rattle.cdc_model.proofs.Found.{net_ascends}
use Rattle.cdc_model.proofs.ReadBits.{reads-of, reads-absent, two_if}
use Rattle.cdc_model.proofs.view.bits_read.Goals as goal

pub returns-in-Some-clause-exact : goal.returns-in-Some-clause-exact
returns-in-Some-clause-exact c = two_if c.reads.result
    (λ bits exact asc cube is has shown l.
    reads-of c.args.net.now is has cube c.args.table.now shown c.args.bit l c.in-Some.node (sym (c.next_node.ensures (net_ascends c.args.net.now is)) ∙ c.in-Some.is) bits asc (exact cube is.graph))
    c.reads.ensures.exact c.reads.ensures.ascending

pub returns-in-None-clause-exact : goal.returns-in-None-clause-exact
returns-in-None-clause-exact c = λ cube is has shown l.
    c.new.ensures ∙ reads-absent c.args.net.now cube c.args.bit (sym (c.next_node.ensures (net_ascends c.args.net.now is)) ∙ c.in-None.is)

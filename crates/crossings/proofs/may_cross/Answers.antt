-- No other group stands below the next value.
use Rattle.std.proofs.Common.{◌∙◌, sym}
use Rattle.cdc_model.proofs.Found.{net_ascends}
use Rattle.crossings.proofs.Exact.{none-absent, none-below, own-below}
use Rattle.crossings.proofs.may_cross.Goals as goal

pub returns-in-Nothing : goal.returns-in-Nothing
returns-in-Nothing c = λ no is has fit shown l.
    none-below c.args.net.now c.args.domains.now c.args.to is has fit c.args.below.now shown l c.in-Some.node
    (sym (c.next_node.ensures (net_ascends c.args.net.now is)) ∙ c.in-Some.is) (sym c.of.ensures ∙ c.in-Nothing.is)

pub returns-in-One : goal.returns-in-One
returns-in-One c = λ no is has fit shown l.
    own-below c.args.net.now c.args.domains.now c.args.to is has fit c.args.below.now shown l c.in-Some.node
    (sym (c.next_node.ensures (net_ascends c.args.net.now is)) ∙ c.in-Some.is) c.in-One.group (sym c.of.ensures ∙ c.in-One.is) (sym c.group_of.ensures ∙ c.is_other.ensures no)

pub returns-in-None : goal.returns-in-None
returns-in-None c = λ no is has fit shown l.
    none-absent c.args.net.now c.args.domains.now c.args.to (sym (c.next_node.ensures (net_ascends c.args.net.now is)) ∙ c.in-None.is)

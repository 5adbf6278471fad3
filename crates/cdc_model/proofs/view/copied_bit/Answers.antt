-- The table shows what the next value's tree equals.
use Rattle.std.proofs.Common.{◌∙◌, sym, []}
use Rattle.cdc_model.proofs.Found.{net_ascends}
use Rattle.cdc_model.proofs.ReadBits.{same-of, same-absent}
use Rattle.cdc_model.proofs.view.copied_bit.Goals as goal

pub returns-in-Some : goal.returns-in-Some
returns-in-Some c = λ is has shown l.
    c.same.ensures ∙ same-of c.args.net.now is has [] c.args.table.now shown c.args.bit l c.in-Some.node (sym (c.next_node.ensures (net_ascends c.args.net.now is)) ∙ c.in-Some.is)

pub returns-in-None : goal.returns-in-None
returns-in-None c = λ is has shown l. same-absent c.args.net.now [] c.args.bit (sym (c.next_node.ensures (net_ascends c.args.net.now is)) ∙ c.in-None.is)

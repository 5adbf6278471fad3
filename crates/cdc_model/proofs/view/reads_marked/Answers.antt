-- No marked signal stands below the next value.
use Rattle.std.proofs.Common.{◌∙◌, sym, ap}
use Rattle.cell_graph.specs.Cofactor.{reads}
use Rattle.cdc_model.specs.Nets.{tree_or_zero}
use Rattle.cdc_model.proofs.Found.{net_ascends}
use Rattle.cdc_model.proofs.ReadBits.{cell-of, no-cell}
use Rattle.cdc_model.proofs.Noted.{unmarked_unread}
use Rattle.cdc_model.proofs.view.reads_marked.Goals as goal

pub returns-in-Nothing : goal.returns-in-Nothing
returns-in-Nothing c = λ no marks cube is has shown b marked.
    let cell = cell-of c.args.net.now c.args.bit c.in-Some.node (sym (c.next_node.ensures (net_ascends c.args.net.now is)) ∙ c.in-Some.is) in
    ap (λ o. reads cube (tree_or_zero c.args.net.now.graph o) c.args.bit.at b) cell
    ∙ unmarked_unread c.args.net.now marks c.args.below.now c.in-Some.node.cell (shown c.in-Some.node.cell (has c.args.bit.sig c.in-Some.node.cell cell).0)
    (sym c.of.ensures ∙ c.in-Nothing.is) cube c.args.bit.at b marked

pub returns-in-None : goal.returns-in-None
returns-in-None c = λ no marks cube is has shown b marked.
    ap (λ o. reads cube (tree_or_zero c.args.net.now.graph o) c.args.bit.at b) (no-cell c.args.net.now c.args.bit (sym (c.next_node.ensures (net_ascends c.args.net.now is)) ∙ c.in-None.is))

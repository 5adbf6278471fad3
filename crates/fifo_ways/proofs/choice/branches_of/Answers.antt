-- The branches' bits are of the graph; a node of another cell is no multiplexer's.
use Rattle.std.proofs.Common.{◌∙◌, sym}
use Rattle.gray_pointer.proofs.Wholes.{in_graph}
use Rattle.fifo_ways.proofs.Steps.{no_branches, yes_node, other_node, branches_found}
use Rattle.fifo_ways.proofs.choice.branches_of.Goals as goal

pub returns-in-Mux : goal.returns-in-Mux
returns-in-Mux c = λ plain is.
    let g = c.args.net.now.graph in
    let n = c.in_ok-node.node in
    let at = sym c.cell.ensures ∙ c.in-Mux.is in
    let yes = yes_node g plain c.args.node is n c.in_ok-node.was c.in-Mux.cond c.in-Mux.yes c.in-Mux.other at in
    let other = other_node g plain c.args.node is n c.in_ok-node.was c.in-Mux.cond c.in-Mux.yes c.in-Mux.other at in
    branches_found g plain c.args.node is n c.in_ok-node.was c.in-Mux.cond c.in-Mux.yes c.in-Mux.other at c.origin.result c.origin-in-Mux.result
    (c.origin.ensures.exact plain.well yes) (c.origin-in-Mux.ensures.exact plain.well other)
    (in_graph g c.origin.result (λ m e. (c.origin.ensures.within plain.well yes m e).0))
    (in_graph g c.origin-in-Mux.result (λ m e. (c.origin-in-Mux.ensures.within plain.well other m e).0))

pub returns-in_default : goal.returns-in_default
returns-in_default c = λ plain is.
    no_branches c.args.net.now.graph plain c.args.node is c.in_ok-node.node c.in_ok-node.was
    (λ p x y e. c.in_default.not-Mux p x y (c.cell.ensures ∙ e))

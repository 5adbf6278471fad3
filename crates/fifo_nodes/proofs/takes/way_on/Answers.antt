-- The way of a choice, or of none.
use Rattle.std.proofs.Common.{◌∙◌, sym, subst, None}
use Rattle.fifo_nodes.specs.Nodes.{IsOwnOrZero}
use Rattle.fifo_nodes.specs.Takes.{IsWay}
use Rattle.fifo_nodes.proofs.Choices.{mux_nodes, mux_way, other_way}
use Rattle.fifo_nodes.proofs.takes.way_on.Goals as goal

pub returns-in-Mux : goal.returns-in-Mux
returns-in-Mux c = λ plain own.
    let g = c.args.net.now.graph in
    let n = c.in_ok-node.node in
    let is = subst (IsOwnOrZero g) c.in_ok-node.was own in
    let m = sym c.cell.ensures ∙ c.in-Mux.is in
    let nodes = mux_nodes g plain.well c.args.bit n is c.in-Mux.cond c.in-Mux.yes c.in-Mux.other m in
    subst (λ o. IsWay g c.args.bit o c.way_of.result) (sym c.in_ok-node.was)
    (mux_way g plain.well c.args.bit n is c.in-Mux.cond c.in-Mux.yes c.in-Mux.other m c.way_of.result (c.way_of.ensures plain nodes.1 nodes.2))

pub returns-in_default : goal.returns-in_default
returns-in_default c = λ plain own.
    let g = c.args.net.now.graph in
    let n = c.in_ok-node.node in
    let is = subst (IsOwnOrZero g) c.in_ok-node.was own in
    subst (λ o. IsWay g c.args.bit o None) (sym c.in_ok-node.was) (other_way g plain.well c.args.bit n is (λ s a b e. c.in_default.not-Mux s a b (c.cell.ensures ∙ e)))

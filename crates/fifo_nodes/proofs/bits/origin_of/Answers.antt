-- The origin of a node of the graph, by its cell.
use Rattle.std.proofs.Common.{◌≡◌, sym, subst, option_map}
use Rattle.cell_graph.specs.Unfolded.{bit_of}
use Rattle.gray_pointer.specs.Words.{IsIn}
use Rattle.fifo_nodes.specs.Nodes.{IsWithin, origin_in}
use Rattle.fifo_nodes.proofs.Choices.{own_origin}
use Rattle.fifo_nodes.proofs.Asking.{origin_within}
use Rattle.fifo_nodes.proofs.bits.origin_of.Goals as goal

pub returns-in-Some-clause-exact : goal.returns-in-Some-clause-exact
returns-in-Some-clause-exact c = λ well is.
    let g = c.args.net.now.graph in
    subst (λ o. option_map (bit_of g) c.origin.result ≡ origin_in g o) (sym c.in-Some.is) (sym (c.origin.ensures.exact well (subst (IsIn g) c.in-Some.is is)))

pub returns-in-Some-clause-own : goal.returns-in-Some-clause-own
returns-in-Some-clause-own c = λ well is.
    let g = c.args.net.now.graph in
    let node = subst (IsIn g) c.in-Some.is is in
    own_origin g c.in-Some.node c.origin.result (c.origin.ensures.exact well node) (c.origin.ensures.within well node)

pub returns-in-Some-clause-within : goal.returns-in-Some-clause-within
returns-in-Some-clause-within c = λ n well is.
    let g = c.args.net.now.graph in
    let node = subst (IsWithin g n) c.in-Some.is is in
    origin_within g n c.in-Some.node c.origin.result node.1 (c.origin.ensures.within well node.0)

-- The origin of one bit more.
use Rattle.std.proofs.Common.{◌+◌, sym, subst, arith}
use Rattle.cell_graph.specs.Unfolded.{IsNodeOf, tree_of}
use Rattle.gray_pointer.proofs.Wholes.{in_graph}
use Rattle.fifo_parts.proofs.CodeNodes.{AreOriginsSoFar, origins_more}
use Rattle.fifo_parts.proofs.side.origins_of.Goals as goal

pub loop-at-preserved : goal.loop-at-preserved
loop-at-preserved c = λ well inside wide.
    let g = c.args.net.now.graph in
    let t = tree_of g c.args.cell in
    let there : IsNodeOf g (record { cell = c.args.cell; at = c.loop-at.at }) = (inside, (let l = c.loop-at-test.true in omega arith)) in
    subst (AreOriginsSoFar g t c.args.width (c.loop-at.at + 1)) (sym c.in_ok-push.ensures.pushed)
    (origins_more g t c.args.width c.loop-at.at c.loop-at.found c.origin.result c.loop-at-test.true (c.origin.ensures.exact well there)
    (in_graph g c.origin.result (λ n e. (c.origin.ensures.within well there n e).0)) (c.loop-at.invariant well inside wide))

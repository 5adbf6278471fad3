-- One choice more, or none.
use Rattle.std.proofs.Common.{refl, subst, sym}
use Rattle.fifo_nodes.specs.Takes.{IsWay}
use Rattle.fifo_nodes.proofs.Choices.{IsSoFar, way_begins, way_goes_on, way_ends}
use Rattle.cell_graph.specs.Unfolded.{tree_of}
use Rattle.fifo_terms.specs.Takes.{taken}
use Rattle.fifo_nodes.proofs.takes.follow.Goals as goal

pub loop-init : goal.loop-init
loop-init c = λ plain is none.
    let g = c.args.net.now.graph in
    let k = taken c.args.bit (tree_of g c.args.next.cell) c.args.next.at in
    way_begins g c.args.bit k c.args.next c.origin-reached.result c.args.conditions.now none refl (c.origin-reached.ensures.exact plain.well is)
    (c.origin-reached.ensures.within plain.well is)

pub returns-in_default : goal.returns-in_default
returns-in_default c = λ plain is none.
    let g = c.args.net.now.graph in
    let k = taken c.args.bit (tree_of g c.args.next.cell) c.args.next.at in
    let so = c.loop.invariant plain is none in
    way_ends g c.args.bit k c.loop.reached c.loop.conditions so
    (subst (IsWay g c.args.bit c.loop.reached) c.in_default.is (c.way_on.ensures plain so.own))

pub loop-preserved : goal.loop-preserved
loop-preserved c = λ plain is none.
    let g = c.args.net.now.graph in
    let k = taken c.args.bit (tree_of g c.args.next.cell) c.args.next.at in
    let so = c.loop.invariant plain is none in
    let w = c.in-Some.way in
    let way = subst (IsWay g c.args.bit c.loop.reached) c.in-Some.is (c.way_on.ensures plain so.own) in
    subst (IsSoFar g c.args.bit k c.origin-reached-in-loop.result) (sym c.in_ok-push.ensures.pushed)
    (way_goes_on g c.args.bit k c.loop.reached c.origin-reached-in-loop.result w c.loop.conditions so way
    (c.origin-reached-in-loop.ensures.exact plain.well way.2) (c.origin-reached-in-loop.ensures.within plain.well way.2))

-- The walk begins at the end's next value, once the cells below it have their words.
use Rattle.std.proofs.Common.{◌≡◌, ◌∙◌, sym, subst, List, Some}
use Rattle.std.specs.List.{Contains}
use Rattle.cell_graph.specs.declared.cell.CellId.{CellId}
use Rattle.cell_graph.specs.Below.{IsClosed, AreIn, AreAscending}
use Rattle.cofactor.proofs.Places.{own-root, root-within}
use Rattle.cdc_model.specs.Nets.{next_node_of}
use Rattle.cdc_model.proofs.Found.{net_ascends}
use Rattle.cdc_model.proofs.ReadBits.{two_if}
use Rattle.crossings.proofs.Ends.{has-next, start-within, start-on, path-is}
use Rattle.crossings.proofs.paths.Paths.path.Goals as goal

pub returns-in_default-clause-exact : goal.returns-in_default-clause-exact
returns-in_default-clause-exact c = λ is has shown counted l r.
    absurd (has-next c.args.net.now has c.args.crossing.now.to c.args.crossing.now.from l r (sym (c.next_node.ensures (net_ascends c.args.net.now is)) ∙ c.in_default.is))

pub returns-clause-exact : goal.returns-clause-exact
returns-clause-exact c = two_if c.walk.result
    (λ path begins walk is has shown counted l r.
    let net = c.args.net.now in
    let to = c.args.crossing.now.to in
    let from = c.args.crossing.now.from in
    let start = c.in-Some.start in
    let next : next_node_of net to ≡ Some start = sym (c.next_node.ensures (net_ascends net is)) ∙ c.in-Some.is in
    let cells : List CellId = c.as_slice.result.now in
    let are : c.in_ok-cells.cells.items ≡ cells = sym c.as_slice.ensures.value in
    let closed = subst (IsClosed net.graph) are c.in_ok-cells.ensures.closed in
    let ascend = subst AreAscending are c.in_ok-cells.ensures.ascending in
    let within = subst (AreIn net.graph) are (c.in_ok-cells.ensures.within is.graph (root-within net.graph start.cell (start-within net has to from l r start next).0)) in
    let there = subst (λ cs. Contains cs start.cell) are (c.in_ok-cells.ensures.roots start.cell (own-root start.cell)) in
    path-is net has to from l r start next path begins (walk from cells is.graph
    (start-on net has to from l r start next c.read_all.new.self cells closed (c.read_all.ensures.words is.graph shown counted closed ascend within) there)))
    c.walk.ensures.begins c.walk.ensures.path

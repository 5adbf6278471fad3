use Rattle.std.proofs.Common.{◌≡◌, ◌≤◌, ◌∙◌, arith, subst}
use Rattle.cell_graph.specs.declared.cell.Node.{Node}
use Rattle.cell_graph.specs.Unfolded.{IsNodeOf}
use Rattle.cell_graph.proofs.Leads.{goes_on, is_zero, is_own}
use Rattle.cofactor.proofs.nodes.origin.Goals as goal

pub returns-then-from-reached-clause-exact : goal.returns-then-from-reached-clause-exact
returns-then-from-reached-clause-exact c = λ well is.
    let here = c.down.invariant well is in
    let next = goes_on c.args.net.now.graph well c.down.reached here.0 c.in-Bit.from c.in-Bit.ensures in
    let lower = next.1 in
    absurd (omega arith)

pub returns-then-from-reached-clause-within : goal.returns-then-from-reached-clause-within
returns-then-from-reached-clause-within c = λ well is.
    let here = c.down.invariant well is in
    let next = goes_on c.args.net.now.graph well c.down.reached here.0 c.in-Bit.from c.in-Bit.ensures in
    let lower = next.1 in
    absurd (omega arith)

pub down-preserved : goal.down-preserved
down-preserved c = λ well is.
    let here = c.down.invariant well is in
    let next = goes_on c.args.net.now.graph well c.down.reached here.0 c.in-Bit.from c.in-Bit.ensures in
    let lower = next.1 in
    let before = here.1 in
    (next.2, (omega arith), here.2 ∙ next.0)

pub returns-in-Zero-clause-exact : goal.returns-in-Zero-clause-exact
returns-in-Zero-clause-exact c = λ well is.
    let here = c.down.invariant well is in
    here.2 ∙ is_zero c.args.net.now.graph well c.down.reached here.0 c.in-Zero.ensures

pub returns-in-Zero-clause-within : goal.returns-in-Zero-clause-within
returns-in-Zero-clause-within c = λ well is m e. cc

pub returns-in-Other-clause-exact : goal.returns-in-Other-clause-exact
returns-in-Other-clause-exact c = λ well is.
    let here = c.down.invariant well is in
    here.2 ∙ is_own c.args.net.now.graph well c.down.reached here.0 c.in-Other.ensures

pub returns-in-Other-clause-within : goal.returns-in-Other-clause-within
returns-in-Other-clause-within c = λ well is m e.
    let here = c.down.invariant well is in
    let same : c.down.reached ≡ m = cc in
    subst (λ (n : Node). IsNodeOf c.args.net.now.graph n × (n.cell.0 ≤ c.args.node.cell.0)) same (here.0, here.1)

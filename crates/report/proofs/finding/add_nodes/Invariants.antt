use Rattle.std.proofs.Common.{◌≡◌, ◌++◌, drop}
use Rattle.report.specs.Findings.{nodes_of}
use Rattle.report.proofs.finding.add_nodes.Given as goal

abbrev pub invariant-loop-node : goal.invariant-loop-node
invariant-loop-node l = l.initial.line ++ nodes_of l.net.graph l.nodes ≡ l.line ++ nodes_of l.net.graph (drop l.node-index l.nodes)

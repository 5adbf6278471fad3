use Rattle.std.proofs.Common.{◌≡◌, ◌++◌, map, take}
use Rattle.report.specs.Findings.{arrival_line}
use Rattle.report.proofs.finding.add_arrival_lines.Given as goal

abbrev pub invariant-loop-arrival : goal.invariant-loop-arrival
invariant-loop-arrival l = l.lines ≡ l.initial.lines ++ map (arrival_line l.net.graph.signals) (take l.arrival-index l.arrivals)

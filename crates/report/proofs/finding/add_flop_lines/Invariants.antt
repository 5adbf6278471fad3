use Rattle.std.proofs.Common.{◌≡◌, ◌++◌, map, take}
use Rattle.report.specs.Findings.{flop_line}
use Rattle.report.proofs.finding.add_flop_lines.Given as goal

abbrev pub invariant-loop-flop : goal.invariant-loop-flop
invariant-loop-flop l = l.lines ≡ l.initial.lines ++ map (flop_line l.net.graph.signals) (take l.flop-index l.flops)

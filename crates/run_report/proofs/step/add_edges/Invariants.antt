use Rattle.std.proofs.Common.{◌≡◌, ◌++◌, drop}
use Rattle.run_report.specs.Lines.{edge_names}
use Rattle.run_report.proofs.step.add_edges.Given as goal

abbrev pub invariant-loop-place : goal.invariant-loop-place
invariant-loop-place l = l.initial.text ++ edge_names l.ticking 0 l.clocks ≡ l.text ++ edge_names l.ticking l.place (drop l.place l.clocks)

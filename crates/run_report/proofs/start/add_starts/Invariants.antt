use Rattle.std.proofs.Common.{◌≡◌, ◌++◌, drop}
use Rattle.run_report.specs.Lines.{start_lines, IsPrintable}
use Rattle.run_report.proofs.start.add_starts.Given as goal

abbrev pub invariant-loop-place : goal.invariant-loop-place
invariant-loop-place l = IsPrintable l.net l.domains → l.initial.text ++ start_lines l.net l.domains l.words 0 l.net.graph.signals
    ≡ l.text ++ start_lines l.net l.domains l.words l.place (drop l.place l.net.graph.signals)

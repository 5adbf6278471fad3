use Rattle.std.proofs.Common.{◌≡◌, ◌++◌, drop}
use Rattle.run_report.specs.Lines.{change_lines, IsPrintable}
use Rattle.run_report.proofs.changes.add_changes.Given as goal

abbrev pub invariant-loop-place : goal.invariant-loop-place
invariant-loop-place l = IsPrintable l.net l.domains → l.initial.text ++ change_lines l.net l.domains l.before l.after 0 l.net.graph.signals
    ≡ l.text ++ change_lines l.net l.domains l.before l.after l.place (drop l.place l.net.graph.signals)

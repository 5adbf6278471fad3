use Rattle.std.proofs.Common.{◌≡◌, ◌++◌, drop}
use Rattle.report.specs.VerdictText.{ended, ring_lines}
use Rattle.report.proofs.verdict.add_rings.Given as goal

abbrev pub invariant-loop-place : goal.invariant-loop-place
invariant-loop-place l = l.initial.text ++ ended (ring_lines l.net.graph.signals 0 l.rings)
    ≡ l.text ++ ended (ring_lines l.net.graph.signals l.place (drop l.place l.rings))

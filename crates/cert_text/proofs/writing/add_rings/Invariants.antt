use Rattle.std.proofs.Common.{◌≡◌, ◌++◌, drop, map}
use Rattle.report.specs.VerdictText.{ended}
use Rattle.cert_text.specs.Texts.{ring_line}
use Rattle.cert_text.proofs.writing.add_rings.Given as goal

abbrev pub invariant-loop-ring : goal.invariant-loop-ring
invariant-loop-ring l = l.initial.text ++ ended (map (ring_line l.net.graph.signals) l.rings)
    ≡ l.text ++ ended (map (ring_line l.net.graph.signals) (drop l.ring-index l.rings))

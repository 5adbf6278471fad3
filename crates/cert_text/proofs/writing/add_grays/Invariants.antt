use Rattle.std.proofs.Common.{◌≡◌, ◌++◌, drop, map}
use Rattle.report.specs.VerdictText.{ended, gray_line}
use Rattle.cert_text.proofs.writing.add_grays.Given as goal

abbrev pub invariant-loop-gray : goal.invariant-loop-gray
invariant-loop-gray l = l.initial.text ++ ended (map (gray_line l.net.graph.signals) l.grays)
    ≡ l.text ++ ended (map (gray_line l.net.graph.signals) (drop l.gray-index l.grays))

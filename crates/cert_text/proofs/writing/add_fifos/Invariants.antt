use Rattle.std.proofs.Common.{◌≡◌, ◌++◌, drop, map}
use Rattle.report.specs.VerdictText.{ended}
use Rattle.cert_text.specs.Texts.{fifo_line}
use Rattle.cert_text.proofs.writing.add_fifos.Given as goal

abbrev pub invariant-loop-pair : goal.invariant-loop-pair
invariant-loop-pair l = l.initial.text ++ ended (map (fifo_line l.net.graph.signals) l.pairs)
    ≡ l.text ++ ended (map (fifo_line l.net.graph.signals) (drop l.pair-index l.pairs))

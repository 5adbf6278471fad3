use Rattle.std.proofs.Common.{◌≡◌, ◌++◌, drop, map}
use Rattle.report.specs.VerdictText.{ended}
use Rattle.cert_text.specs.Texts.{load_line}
use Rattle.cert_text.proofs.writing.add_loads.Given as goal

abbrev pub invariant-loop-load : goal.invariant-loop-load
invariant-loop-load l = l.initial.text ++ ended (map (load_line l.net.graph.signals) l.loads)
    ≡ l.text ++ ended (map (load_line l.net.graph.signals) (drop l.load-index l.loads))

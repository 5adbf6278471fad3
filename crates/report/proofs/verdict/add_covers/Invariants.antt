use Rattle.std.proofs.Common.{◌≡◌, ◌++◌, drop, map}
use Rattle.report.specs.VerdictText.{cover_line, ended}
use Rattle.report.proofs.verdict.add_covers.Given as goal

abbrev pub invariant-loop-cover : goal.invariant-loop-cover
invariant-loop-cover l = l.initial.text ++ ended (map (cover_line l.net.graph.signals) l.covers)
    ≡ l.text ++ ended (map (cover_line l.net.graph.signals) (drop l.cover-index l.covers))

use Rattle.std.proofs.Common.{◌≡◌, ◌++◌, drop, map}
use Rattle.report.specs.VerdictText.{ended}
use Rattle.cert_text.specs.Texts.{sync_line}
use Rattle.cert_text.proofs.writing.add_syncs.Given as goal

abbrev pub invariant-loop-sync : goal.invariant-loop-sync
invariant-loop-sync l = l.initial.text ++ ended (map (sync_line l.net.graph.signals) l.syncs)
    ≡ l.text ++ ended (map (sync_line l.net.graph.signals) (drop l.sync-index l.syncs))

use Rattle.std.proofs.Common.{◌≡◌, ◌++◌, map, drop}
use Rattle.run_report.specs.Lines.{race_lines}
use Rattle.run_report.proofs.races.add_all.Given as goal

abbrev pub invariant-loop-race : goal.invariant-loop-race
invariant-loop-race l = l.initial.text ++ race_lines l.net.graph.signals (map (λ r. r.now) l.races)
    ≡ l.text ++ race_lines l.net.graph.signals (map (λ r. r.now) (drop l.race-index l.races))

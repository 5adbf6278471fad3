use Rattle.std.proofs.Common.{◌≡◌, ◌++◌, drop}
use Rattle.cell_graph.specs.Values.{reading_of}
use Rattle.campaign.specs.Planned.{watched_among}
use Rattle.campaign.proofs.plan.add_pairs.Given as goal

abbrev pub invariant-loop-from : goal.invariant-loop-from
invariant-loop-from l =
    l.initial.pairs.items ++ watched_among l.domains (reading_of l.settling) l.bit l.read
    ≡ l.pairs.items ++ watched_among l.domains (reading_of l.settling) l.bit (drop l.from-index l.read)

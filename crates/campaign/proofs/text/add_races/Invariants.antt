use Rattle.std.proofs.Common.{◌≡◌, ◌++◌, drop, map}
use Rattle.json.specs.Tree.{items_tokens}
use Rattle.json.specs.Value.{items_of}
use Rattle.campaign.specs.Lines.{race_value}
use Rattle.campaign.proofs.text.add_races.Given as goal

abbrev pub invariant-loop-race : goal.invariant-loop-race
invariant-loop-race l = l.initial.output ++ items_tokens (items_of (map (race_value l.net.graph.signals) (map (λ r. r.now) l.races)))
    ≡ l.output ++ items_tokens (items_of (map (race_value l.net.graph.signals) (map (λ r. r.now) (drop l.race-index l.races))))

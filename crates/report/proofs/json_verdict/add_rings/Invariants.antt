use Rattle.std.proofs.Common.{◌≡◌, ◌++◌, drop, map}
use Rattle.json.specs.Tree.{items_tokens}
use Rattle.json.specs.Value.{items_of}
use Rattle.report.specs.VerdictJson.{ring_value}
use Rattle.report.proofs.json_verdict.add_rings.Given as goal

abbrev pub invariant-loop-ring : goal.invariant-loop-ring
invariant-loop-ring l = l.initial.output ++ items_tokens (items_of (map (ring_value l.net.graph.signals) l.rings)) ≡ l.output ++ items_tokens (items_of (map (ring_value l.net.graph.signals) (drop l.ring-index l.rings)))

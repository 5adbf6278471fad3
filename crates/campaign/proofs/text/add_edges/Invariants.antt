use Rattle.std.proofs.Common.{◌≡◌, ◌++◌, drop, map}
use Rattle.json.specs.Json.{string}
use Rattle.json.specs.Tree.{items_tokens}
use Rattle.json.specs.Value.{items_of}
use Rattle.campaign.specs.Lines.{clock_name}
use Rattle.campaign.proofs.text.add_edges.Given as goal

abbrev pub invariant-loop-edge : goal.invariant-loop-edge
invariant-loop-edge l = l.initial.output ++ items_tokens (items_of (map string (map (clock_name l.domains) l.edges)))
    ≡ l.output ++ items_tokens (items_of (map string (map (clock_name l.domains) (drop l.edge-index l.edges))))

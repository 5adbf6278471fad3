use Rattle.std.proofs.Common.{◌≡◌, ◌++◌, drop, map}
use Rattle.json.specs.Json.{string}
use Rattle.json.specs.Tree.{items_tokens}
use Rattle.json.specs.Value.{items_of}
use Rattle.report.specs.VerdictText.{gray_line}
use Rattle.report.proofs.json_verdict.add_grays.Given as goal

abbrev pub invariant-loop-gray : goal.invariant-loop-gray
invariant-loop-gray l = l.initial.output ++ items_tokens (items_of (map string (map (gray_line l.net.graph.signals) l.grays))) ≡ l.output ++ items_tokens (items_of (map string (map (gray_line l.net.graph.signals) (drop l.gray-index l.grays))))

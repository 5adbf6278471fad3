use Rattle.std.proofs.Common.{◌≡◌, ◌++◌, drop, map}
use Rattle.json.specs.Tree.{items_tokens}
use Rattle.json.specs.Value.{items_of}
use Rattle.report.specs.VerdictJson.{cover_value}
use Rattle.report.proofs.json_verdict.add_covers.Given as goal

abbrev pub invariant-loop-cover : goal.invariant-loop-cover
invariant-loop-cover l = l.initial.output ++ items_tokens (items_of (map (cover_value l.net.graph.signals) l.covers)) ≡ l.output ++ items_tokens (items_of (map (cover_value l.net.graph.signals) (drop l.cover-index l.covers)))

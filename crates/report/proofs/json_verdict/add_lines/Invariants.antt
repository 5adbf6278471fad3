use Rattle.std.proofs.Common.{◌≡◌, ◌++◌, drop, map}
use Rattle.json.specs.Json.{string}
use Rattle.json.specs.Tree.{items_tokens}
use Rattle.json.specs.Value.{items_of}
use Rattle.report.proofs.json_verdict.add_lines.Given as goal

abbrev pub invariant-loop-line : goal.invariant-loop-line
invariant-loop-line l = l.initial.output ++ items_tokens (items_of (map string l.lines)) ≡ l.output ++ items_tokens (items_of (map string (drop l.line-index l.lines)))

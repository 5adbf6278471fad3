use Rattle.std.proofs.Common.{◌≡◌, ◌++◌, drop, map}
use Rattle.json.specs.Json.{string}
use Rattle.json.specs.Tree.{items_tokens}
use Rattle.json.specs.Value.{items_of}
use Rattle.report.proofs.json_verdict.add_names.Given as goal

abbrev pub invariant-loop-name : goal.invariant-loop-name
invariant-loop-name l = l.initial.output ++ items_tokens (items_of (map string l.names)) ≡ l.output ++ items_tokens (items_of (map string (drop l.name-index l.names)))

use Rattle.std.proofs.Common.{◌≡◌, ◌++◌, drop}
use Rattle.json.specs.Tree.{items_tokens}
use Rattle.json.specs.Value.{items_of}
use Rattle.report.specs.VerdictJson.{finding_values}
use Rattle.report.proofs.json_verdict.add_findings.Given as goal

abbrev pub invariant-loop-place : goal.invariant-loop-place
invariant-loop-place l = l.initial.output ++ items_tokens (items_of (finding_values l.net l.domains l.waivers l.aside 0 l.findings)) ≡ l.output ++ items_tokens (items_of (finding_values l.net l.domains l.waivers l.aside l.place (drop l.place l.findings)))

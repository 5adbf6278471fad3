use Rattle.std.proofs.Common.{◌≡◌, ◌++◌, drop}
use Rattle.report.specs.VerdictText.{all_found, ended}
use Rattle.report.proofs.verdict.add_findings.Given as goal

abbrev pub invariant-loop-place : goal.invariant-loop-place
invariant-loop-place l = l.initial.text ++ ended (all_found l.net l.domains l.waivers l.aside 0 l.findings)
    ≡ l.text ++ ended (all_found l.net l.domains l.waivers l.aside l.place (drop l.place l.findings))

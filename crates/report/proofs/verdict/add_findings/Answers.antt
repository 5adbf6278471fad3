use Rattle.std.proofs.Common.{◌∙◌, ◌≡◌, ◌+◌, ◌∷◌, ◌++◌, drop, ap, sym}
use Rattle.std.proofs.lemmas.List.{drop_more}
use Rattle.report.specs.VerdictText.{all_found, ended, found_lines, reason_at}
use Rattle.report.proofs.Lines.{lines-go}
use Rattle.report.proofs.verdict.add_findings.Goals as goal

pub loop-place-preserved : goal.loop-place-preserved
loop-place-preserved c =
    let net = c.args.net.now in
    let domains = c.args.domains.now in
    let waivers = c.args.waivers.now in
    let aside = c.args.aside.now in
    let place = c.loop-place.place in
    let finding = c.index-findings-place.result in
    let left : drop place c.args.findings.now ≡ finding ∷ drop (place + 1) c.args.findings.now =
    drop_more c.args.findings.now place finding c.loop-place-test.true ∙ ap (λ f. f ∷ drop (place + 1) c.args.findings.now) (sym c.index-findings-place.is) in
    let rest = all_found net domains waivers aside (place + 1) (drop (place + 1) c.args.findings.now) in
    lines-go _ c.loop-place.text c.add_finding.new.text _ (found_lines net domains finding (reason_at waivers aside place)) rest c.loop-place.invariant
    (ap (all_found net domains waivers aside place) left)
    (c.in_ok-add_finding.ensures ∙ ap (λ reason. c.loop-place.text ++ ended (found_lines net domains finding reason)) c.reason_at.ensures)

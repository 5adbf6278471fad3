use Rattle.std.proofs.Common.{◌∙◌, ◌++◌, ◌∷◌, [], length, ap}
use Rattle.std.specs.Prelude.{codes, ◌==◌}
use Rattle.json.specs.Print.{print}
use Rattle.json.specs.Token.{begin_object}
use Rattle.report.specs.VerdictJson.{back_entries, entry_tokens, fifo_entries, found_entries, front_entries, waived_entries}
use Rattle.report.specs.VerdictText.{waived_count}
use Rattle.report.proofs.Tokens.{IfOk-same, entries-next, object-ends}
use Rattle.report.proofs.json_verdict.verdict_json.Goals as goal

pub returns : goal.returns
returns c =
    let net = c.args.net.now in
    let domains = c.args.domains.now in
    let verdict = c.args.verdict.now in
    let waivers = c.args.waivers.now in
    let aside = c.args.aside.now in
    let front = front_entries net (length verdict.findings == 0) verdict.covers (length verdict.crossings) in
    let fifos = fifo_entries c.args.fifos.now in
    let found = found_entries net domains verdict.findings waivers aside in
    let back = back_entries net verdict in
    let waived = waived_entries (waived_count aside) in
    let opened = c.in_ok-begin_object.ensures ∙ ap (λ t. t ++ begin_object ∷ []) c.new-output.ensures in
    let upto_front = entries-next c.begin_object.new.self c.add_front.new.output [] front opened
    (c.in_ok-add_front.ensures ∙ ap (λ t. c.begin_object.new.self ++ entry_tokens (front_entries net t c.as_slice.result.now c.len-crossings.result))
    (c.is_empty-clean.ensures ∙ ap (λ fs. length fs == 0) c.as_slice-findings.ensures)
    ∙ ap (λ cs. c.begin_object.new.self ++ entry_tokens (front_entries net (length verdict.findings == 0) cs c.len-crossings.result)) c.as_slice.ensures
    ∙ ap (λ n. c.begin_object.new.self ++ entry_tokens (front_entries net (length verdict.findings == 0) verdict.covers n)) c.len-crossings.ensures) in
    let upto_fifos = entries-next c.add_front.new.output c.add_fifos.new.output front fifos upto_front c.in_ok-add_fifos.ensures in
    let upto_found = entries-next c.add_fifos.new.output c.add_found.new.output (front ++ fifos) found upto_fifos
    (c.in_ok-add_found.ensures ∙ ap (λ fs. c.add_fifos.new.output ++ entry_tokens (found_entries net domains fs waivers aside)) c.as_slice-findings.ensures) in
    let upto_back = entries-next c.add_found.new.output c.add_back.new.output ((front ++ fifos) ++ found) back upto_found c.in_ok-add_back.ensures in
    let upto_waived = entries-next c.add_back.new.output c.add_waived.new.output (((front ++ fifos) ++ found) ++ back) waived upto_back
    (c.in_ok-add_waived.ensures ∙ ap (λ n. c.add_back.new.output ++ entry_tokens (waived_entries n)) c.count_waived.ensures) in
    let all = object-ends c.add_waived.new.output c.end_object.new.self ((((front ++ fifos) ++ found) ++ back) ++ waived) upto_waived c.in_ok-end_object.ensures in
    IfOk-same c.into_line.result _ _ c.into_line.ensures (ap (λ t. print t ++ codes "\n") all)

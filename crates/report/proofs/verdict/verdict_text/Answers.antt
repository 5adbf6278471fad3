use Rattle.std.proofs.Common.{◌∙◌, ◌++◌, ◌∷◌, [], length, map, ap}
use Rattle.report.specs.VerdictText.{all_found, cover_line, ended, gray_line, ring_lines, sum_line, waived_count}
use Rattle.report.proofs.Lines.{ended-next}
use Rattle.report.proofs.verdict.verdict_text.Goals as goal

pub returns : goal.returns
returns c =
    let net = c.args.net.now in
    let signals = net.graph.signals in
    let verdict = c.args.verdict.now in
    let aside = c.args.aside.now in
    let rings = ring_lines signals 0 verdict.rings in
    let grays = map (gray_line signals) verdict.grays in
    let covers = map (cover_line signals) verdict.covers in
    let found = all_found net c.args.domains.now c.args.waivers.now aside 0 verdict.findings in
    let sum = sum_line (length verdict.findings) (waived_count aside) (length verdict.crossings) ∷ [] in
    c.into_list.ensures ∙ ended-next c.add_findings.new.text c.add_sum.new.text (((rings ++ grays) ++ covers) ++ found) sum
    (ended-next c.add_covers.new.text c.add_findings.new.text ((rings ++ grays) ++ covers) found
    (ended-next c.add_grays.new.text c.add_covers.new.text (rings ++ grays) covers
    (ended-next c.add_rings.new.text c.add_grays.new.text rings grays
    (ended-next c.new-text.result c.add_rings.new.text [] rings c.new-text.ensures
    (c.in_ok-add_rings.ensures ∙ ap (λ rs. c.new-text.result ++ ended (ring_lines signals 0 rs)) c.as_slice.ensures))
    (c.in_ok-add_grays.ensures ∙ ap (λ gs. c.add_rings.new.text ++ ended (map (gray_line signals) gs)) c.as_slice-2.ensures))
    (c.in_ok-add_covers.ensures ∙ ap (λ cs. c.add_grays.new.text ++ ended (map (cover_line signals) cs)) c.as_slice-3.ensures))
    (c.in_ok-add_findings.ensures ∙ ap (λ fs. c.add_covers.new.text ++ ended (all_found net c.args.domains.now c.args.waivers.now aside 0 fs)) c.as_slice-findings.ensures))
    c.in_ok-add_sum.ensures

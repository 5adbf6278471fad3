use Rattle.std.proofs.Common.{◌∙◌, ap, map, List, ℕ}
use Rattle.std.specs.Borrow.{Bor}
use Rattle.report.specs.Search.{earliest, exact_match}
use Rattle.report.specs.Waived.{first_match}
use Rattle.report.proofs.Search.{earliest-first, line-more}
use Rattle.report.proofs.waivers.waived_by.Goals as goal

abbrev named : List (ℕ × Bor (List ℕ)) → List (ℕ × List ℕ)
named ps = map (λ p. (p.0, p.1.now)) ps

pub loop-line-preserved : goal.loop-line-preserved
loop-line-preserved c =
    let waivers = c.args.waivers.now in
    let line = c.line-item.result in
    line-more (λ l. first_match l 0 waivers) c.args.lines.now c.loop-line.line-index line c.loop-line.aside c.push.new.self c.first_match.result c.loop-line-test.true c.line-item.is
    c.loop-line.invariant c.in_ok-push.ensures.pushed
    (c.first_match.ensures ∙ ap (λ o. earliest line o (named c.as_slice.result.now)) (c.in_ok-exact.ensures line)
    ∙ ap (λ s. earliest line (exact_match line 0 waivers) s) (ap named c.as_slice.ensures.value ∙ c.in_ok-starred.ensures) ∙ earliest-first line 0 waivers)

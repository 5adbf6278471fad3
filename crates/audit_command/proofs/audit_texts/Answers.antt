use Rattle.std.proofs.Common.{◌∙◌, ap, ap₂, sym, refl, rules}
use Rattle.std.specs.Prelude.{IfErr}
use Rattle.refusals.specs.Numbers.{waiver_numbers}
use Rattle.report.specs.Waived.{set_aside}
use Rattle.command_files.specs.Endings.{HasCause, IsOfFiles}
use Rattle.described_design.proofs.Designs.{given_gives}
use Rattle.described_design.proofs.Refused.{caused}
use Rattle.audit_command.specs.Audits.{audited_status, text_of}
use Rattle.audit_command.specs.Refused.{IsAuditRefused, IsVerdictRefused}
use Rattle.audit_command.proofs.Audits.{audited_texts}
use Rattle.audit_command.proofs.Refused.{crossings_refused, texts_refused, verdict_refused, waivers_cause}
use Rattle.audit_command.proofs.audit_texts.Goals as goal

pub returns-in_err-aside-clause-ended : goal.returns-in_err-aside-clause-ended
returns-in_err-aside-clause-ended c =
    let refused : IfErr c.or_refused.result IsOfFiles = c.or_refused.ensures.ended waiver_numbers refl c.set_aside-aside.ensures.numbered in
    search (rules, refused, c.in_err-aside.was, c.from_residual-in_err-aside.ensures.0, c.from_residual-in_err-aside.ensures.1)

pub returns-clause-exact : goal.returns-clause-exact
returns-clause-exact c =
    let d = c.in_ok-design.design in
    audited_texts _ _ _ _ d.constraints d.net d.domains c.in_ok-judged.judged c.in_ok-aside.aside _ _ c.in_ok-design.ensures.design c.in_ok-judged.ensures.exact
    (ap (set_aside d.net d.domains c.in_ok-judged.judged.verdict.findings) (sym c.as_slice-waivers.ensures)
    ∙ given_gives _ _ c.in_ok-aside.aside c.in_ok-aside.ensures.given c.set_aside-aside.ensures.exact)
    (c.audited.ensures.exact ∙ ap₂ audited_status c.len.ensures c.as_slice-2.ensures)
    (c.in_ok-text.ensures ∙ ap₂ (text_of c.args.json d.net d.domains c.in_ok-judged.judged.verdict c.in_ok-judged.judged.lines) c.as_slice-waivers.ensures c.as_slice.ensures)

pub returns-in_err-design-clause-refused : goal.returns-in_err-design-clause-refused
returns-in_err-design-clause-refused c =
    let refused : IfErr c.design_of_texts.result (HasCause (λ status fault. IsAuditRefused c.args.word.now c.args.net.now c.args.con.now fault status))
    = texts_refused _ _ _ _ c.design_of_texts.ensures.refused in
    search (rules, refused, c.in_err-design.was, c.from_residual.ensures.0, c.from_residual.ensures.1)

pub returns-in_err-judged-clause-refused : goal.returns-in_err-judged-clause-refused
returns-in_err-judged-clause-refused c =
    let d = c.in_ok-design.design in
    let design = c.in_ok-design.ensures.design in
    let refused : IfErr c.verdict_on.result (HasCause (λ status fault. IsAuditRefused c.args.word.now c.args.net.now c.args.con.now fault status))
    = crossings_refused _ _ _ d.constraints d.net d.domains design _ (c.verdict_on.ensures.refused design.design.can_audit) in
    search (rules, refused, c.in_err-judged.was, c.from_residual-in_err-judged.ensures.0, c.from_residual-in_err-judged.ensures.1)

pub returns-in_err-aside-clause-refused : goal.returns-in_err-aside-clause-refused
returns-in_err-aside-clause-refused c =
    let d = c.in_ok-design.design in
    let design = c.in_ok-design.ensures.design in
    let on = c.in_ok-judged.ensures.exact design.design.can_audit in
    let told = rw c.as_slice-waivers.ensures at c.set_aside-aside.ensures.exact in
    let refused : IfErr c.or_refused.result (HasCause (λ status fault. IsAuditRefused c.args.word.now c.args.net.now c.args.con.now fault status))
    = verdict_refused _ _ _ d.constraints d.net d.domains design _ (caused (λ status fault. IsVerdictRefused d.constraints d.net d.domains fault status) _ _ _ c.or_refused.ensures.exact
    (waivers_cause d.constraints d.net d.domains c.in_ok-judged.judged on _ told)) in
    search (rules, refused, c.in_err-aside.was, c.from_residual-in_err-aside.ensures.0, c.from_residual-in_err-aside.ensures.1)

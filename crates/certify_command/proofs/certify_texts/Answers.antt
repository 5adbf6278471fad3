use Rattle.std.proofs.Common.{◌∙◌, ap, rules}
use Rattle.std.specs.Prelude.{IfErr}
use Rattle.command_files.specs.Endings.{HasCause}
use Rattle.certify_command.specs.Certifies.{certified_status}
use Rattle.certify_command.specs.Refused.{IsCertifyRefused}
use Rattle.certify_command.proofs.Certifies.{certified_texts, crossings_refused, texts_refused}
use Rattle.certify_command.proofs.certify_texts.Goals as goal

pub returns-clause-exact : goal.returns-clause-exact
returns-clause-exact c =
    let d = c.in_ok-design.design in
    certified_texts _ _ _ c.clean_is_certified.ensures d.constraints d.net d.domains c.in_ok-judged.judged _ _ c.in_ok-design.ensures.design c.in_ok-judged.ensures.exact
    (c.certified-status.ensures.exact ∙ ap certified_status c.len.ensures) c.in_ok-text.ensures

pub returns-in_err-design-clause-refused : goal.returns-in_err-design-clause-refused
returns-in_err-design-clause-refused c =
    let refused : IfErr c.design_of_texts.result (HasCause (λ status fault. IsCertifyRefused c.args.word.now c.args.net.now c.args.con.now fault status))
    = texts_refused _ _ _ _ c.design_of_texts.ensures.refused in
    search (rules, refused, c.in_err-design.was, c.from_residual.ensures.0, c.from_residual.ensures.1)

pub returns-in_err-judged-clause-refused : goal.returns-in_err-judged-clause-refused
returns-in_err-judged-clause-refused c =
    let d = c.in_ok-design.design in
    let design = c.in_ok-design.ensures.design in
    let refused : IfErr c.verdict_on.result (HasCause (λ status fault. IsCertifyRefused c.args.word.now c.args.net.now c.args.con.now fault status))
    = crossings_refused _ _ _ d.constraints d.net d.domains design _ (c.verdict_on.ensures.refused design.design.can_audit) in
    search (rules, refused, c.in_err-judged.was, c.from_residual-in_err-judged.ensures.0, c.from_residual-in_err-judged.ensures.1)

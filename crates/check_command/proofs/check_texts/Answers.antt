use Rattle.std.proofs.Common.{rules}
use Rattle.std.specs.Prelude.{IfErr}
use Rattle.command_files.specs.Endings.{HasCause}
use Rattle.check_command.specs.Refused.{IsCheckRefused}
use Rattle.check_command.proofs.Checks.{certificate_refused, checked_texts, texts_refused}
use Rattle.check_command.proofs.check_texts.Goals as goal

pub returns-clause-exact : goal.returns-clause-exact
returns-clause-exact c =
    let d = c.in_ok-design.design in
    checked_texts _ _ _ _ d.constraints d.net d.domains c.in_ok-checked.checked _ _ c.in_ok-design.ensures.design c.in_ok-checked.ensures.exact
    c.status_of.ensures.exact c.in_ok-text.ensures

pub returns-in_err-design-clause-refused : goal.returns-in_err-design-clause-refused
returns-in_err-design-clause-refused c =
    let refused : IfErr c.design_of_texts.result (HasCause (λ status fault. IsCheckRefused c.args.word.now c.args.net.now c.args.con.now c.args.cert.now fault status))
    = texts_refused _ _ _ _ _ c.design_of_texts.ensures.refused in
    search (rules, refused, c.in_err-design.was, c.from_residual.ensures.0, c.from_residual.ensures.1)

pub returns-in_err-checked-clause-refused : goal.returns-in_err-checked-clause-refused
returns-in_err-checked-clause-refused c =
    let d = c.in_ok-design.design in
    let refused : IfErr c.checked_on.result (HasCause (λ status fault. IsCheckRefused c.args.word.now c.args.net.now c.args.con.now c.args.cert.now fault status))
    = certificate_refused _ _ _ _ d.constraints d.net d.domains c.in_ok-design.ensures.design _ c.checked_on.ensures.refused in
    search (rules, refused, c.in_err-checked.was, c.from_residual-in_err-checked.ensures.0, c.from_residual-in_err-checked.ensures.1)

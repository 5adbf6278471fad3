use Rattle.std.proofs.Common.{◌∙◌, sym}
use Rattle.std.proofs.lemmas.Result.{IfOk-weaker}
use Rattle.certify_command.proofs.Certifies.{text_written}
use Rattle.certify_command.proofs.text_of.Goals as goal

pub returns-in_ok-certificate : goal.returns-in_ok-certificate
returns-in_ok-certificate c =
    let none = sym c.len-findings.ensures ∙ c.if-findings-eq0.true in
    IfOk-weaker c.write.result _ _ (λ text told. λ can is.
    text_written c.args.net.now c.args.domains.now can c.args.judged is c.in_ok-certificate.certificate text none (c.in_ok-certificate.ensures can is) told) c.write.ensures

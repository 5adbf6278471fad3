-- The first bad item, or what is answered where all items but pairs are good.
use Rattle.std.proofs.Common.{sym, subst, []}
use Rattle.cofactor.proofs.Places.{if_ok}
use Rattle.cdc_model.specs.Tables.{ShowsNet}
use Rattle.cert_check.specs.OnNets.{IsFoundBadOn}
use Rattle.cert_check.proofs.answer.Goals as goal

pub returns-in-Some : goal.returns-in-Some
returns-in-Some c = λ can. subst (IsFoundBadOn c.args.net.now c.args.domains.now c.args.certificate.now) c.in-Some.is
    (c.in_ok-bad.ensures.exact can (c.in_ok-plain.ensures can.is_net.graph))

pub returns : goal.returns
returns c = if_ok c.check_fifos.result
    (λ checked all can. all can
    (subst (ShowsNet c.args.net.now []) (sym c.in_ok-bad.ensures.unchanged) (c.in_ok-plain.ensures can.is_net.graph))
    (subst (IsFoundBadOn c.args.net.now c.args.domains.now c.args.certificate.now) c.in-None.is
    (c.in_ok-bad.ensures.exact can (c.in_ok-plain.ensures can.is_net.graph))))
    c.check_fifos.ensures

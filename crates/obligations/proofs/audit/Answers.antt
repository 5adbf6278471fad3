-- With no further crossing, nothing has to fit.
use Rattle.std.proofs.Common.{sym, subst, []}
use Rattle.std.proofs.lemmas.Result.{err_from_is_err_and}
use Rattle.cdc_model.specs.Tables.{ShowsNet}
use Rattle.crossings.proofs.Exact.{cause-map}
use Rattle.obligations.proofs.audit.Goals as goal

pub returns-in_err-schemes-clause-full : goal.returns-in_err-schemes-clause-full
returns-in_err-schemes-clause-full c =
    let p = err_from_is_err_and c.from_residual-in_err-schemes.result c.from_residual-in_err-schemes.ensures.1 in
    rw (p.1, p.2) (cause-map 603 c.in_err-schemes.field-0.0 (λ over can. over can (c.in_ok-plain.ensures can.is_net.graph)) c.in_err-schemes.ensures.full)

pub returns-clause-exact : goal.returns-clause-exact
returns-clause-exact c = λ can.
    let shown = c.in_ok-plain.ensures can.is_net.graph in
    c.in_ok-verdict.ensures.exact can (c.in_ok-schemes.ensures.exact can shown) (subst (ShowsNet c.args.net.now []) (sym c.find.ensures.unchanged) shown)

pub returns-clause-sound : goal.returns-clause-sound
returns-clause-sound c = λ can none.
    let shown = c.in_ok-plain.ensures can.is_net.graph in
    let is = c.in_ok-verdict.ensures.exact can (c.in_ok-schemes.ensures.exact can shown) (subst (ShowsNet c.args.net.now []) (sym c.find.ensures.unchanged) shown) in
    c.in_ok-verdict.ensures.sound can is tt none

-- The synchronizers are those of the verdict that was made with them.
use Rattle.std.proofs.lemmas.Result.{err_from_is_err_and}
use Rattle.std.proofs.Common.{[], sym, subst}
use Rattle.cdc_model.specs.Tables.{ShowsNet}
use Rattle.crossings.proofs.Exact.{cause-map}
use Rattle.net_verdict.proofs.judge.Goals as goal

pub returns-in_err-schemes-clause-full : goal.returns-in_err-schemes-clause-full
returns-in_err-schemes-clause-full c =
    let p = err_from_is_err_and c.from_residual-in_err-schemes.result c.from_residual-in_err-schemes.ensures.1 in
    rw (p.1, p.2) (cause-map 603 c.in_err-schemes.field-0.0 (λ over can. over can (c.in_ok-plain.ensures can.is_net.graph)) c.in_err-schemes.ensures.full)

pub returns-clause-exact : goal.returns-clause-exact
returns-clause-exact c = λ can.
    let net = c.args.net.now in
    let shows = c.in_ok-plain.ensures can.is_net.graph in
    let by = c.in_ok-verdict.ensures can (c.in_ok-schemes.ensures.exact can shows) (subst (ShowsNet net []) (sym c.find.ensures.unchanged) shows) in
    record {
      fifos = by.fifos;
      are_fifos = by.are_fifos;
      on = by.on;
      in_order = by.in_order;
      syncs = (c.in_ok-schemes.ensures.exact can shows).syncs;
      counts = by.counts_are;
      lines = by.lines_are;
    }

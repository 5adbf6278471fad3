-- Each kind of scheme from its search.
use Rattle.std.proofs.Common.{◌≡◌, ◌∙◌, sym, subst, []}
use Rattle.std.proofs.lemmas.Result.{err_from_is_err_and}
use Rattle.cdc_model.specs.Tables.{ShowsNet}
use Rattle.crossings.proofs.Exact.{cause-map}
use Rattle.obligations.proofs.schemes.Schemes.find.Goals as goal

pub returns-in_err-crossings-clause-full : goal.returns-in_err-crossings-clause-full
returns-in_err-crossings-clause-full c =
    let p = err_from_is_err_and c.from_residual.result c.from_residual.ensures.1 in
    rw (p.1, p.2) (cause-map 603 c.in_err-crossings.field-0.0 (λ over can shown. over can.is_net can.has_next can.fits shown) c.in_err-crossings.ensures.full)

pub returns-clause-exact : goal.returns-clause-exact
returns-clause-exact c = λ can shown.
    let net = c.args.net.now in
    let crossings = c.in_ok-crossings.ensures.exact can.is_net can.has_next can.fits shown in
    let shown-2 = subst (ShowsNet net []) (sym c.find_with.ensures.unchanged) shown in
    let shown-3 = subst (ShowsNet net []) (sym c.syncs_with.ensures.unchanged) shown-2 in
    record {
      crossings = crossings;
      syncs = c.in_ok-syncs.ensures.exact can.is_net can.has_next shown-2 (c.as_slice.ensures ∙ crossings);
      grays = c.in_ok-grays.ensures.exact can.is_net can.has_next can.is_shared can.narrow shown-3;
    }

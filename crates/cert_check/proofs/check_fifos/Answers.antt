-- The FIFOs for which the pairs stand, or the first pair that stands for none.
use Rattle.std.proofs.Common.{◌∙◌, sym, subst}
use Rattle.cofactor.proofs.Places.{if_ok}
use Rattle.fifo_scheme.specs.Pairs.{GuardsThose, IsAnswer}
use Rattle.cert_check.proofs.WithFifos.{first_missing, its_syncs, nothing, searched, with_pairs, without_pairs}
use Rattle.cert_check.proofs.check_fifos.Goals as goal

pub returns-then-is_empty : goal.returns-then-is_empty
returns-then-is_empty c = if_ok c.check_crossings.result
    (λ checked all can shown good. without_pairs c.args.net.now c.args.domains.now c.args.certificate.now good
    (sym c.as_slice-pairs.ensures ∙ nothing c.as_slice-pairs.result.now (sym c.is_empty.ensures ∙ c.if-is_empty.true)) checked (all can shown))
    c.check_crossings.ensures

pub returns-in-Missing : goal.returns-in-Missing
returns-in-Missing c = λ can shown good.
    let net = c.args.net.now in
    let domains = c.args.domains.now in
    let cert = c.args.certificate.now in
    let answer = searched net domains cert good can c.as_slice-syncs.result.now c.as_slice-grays.result.now c.as_slice-pairs.result.now
    c.as_slice-syncs.ensures c.as_slice-grays.ensures c.as_slice-pairs.ensures c.in_ok-found.found c.in_ok-found.ensures.exact in
    first_missing net domains cert good c.in-Missing.place c.fifo_line-line.result
    (subst (IsAnswer net domains (its_syncs net domains cert good).0 cert.grays cert.fifos) c.in-Missing.is answer) can c.fifo_line-line.ensures

pub returns-in-Found : goal.returns-in-Found
returns-in-Found c = if_ok c.check_crossings-in-Found.result
    (λ checked all can shown good.
    let net = c.args.net.now in
    let domains = c.args.domains.now in
    let cert = c.args.certificate.now in
    let found = c.in-Found.fifos in
    let answer = searched net domains cert good can c.as_slice-syncs.result.now c.as_slice-grays.result.now c.as_slice-pairs.result.now
    c.as_slice-syncs.ensures c.as_slice-grays.ensures c.as_slice-pairs.ensures c.in_ok-found.found c.in_ok-found.ensures.exact in
    with_pairs net domains cert good found.fifos (subst (IsAnswer net domains (its_syncs net domains cert good).0 cert.grays cert.fifos) c.in-Found.is answer)
    found.crossings c.covers.result.now (subst GuardsThose c.in-Found.is c.in_ok-found.ensures.guards) c.covers.ensures.listed checked (all can shown))
    c.check_crossings-in-Found.ensures

-- The crossings into one bit more are all served, or one isn't.
use Rattle.std.proofs.Common.{◌∙◌, ap, sym, subst, [], get_or, drop, ◌+◌}
use Rattle.std.proofs.lemmas.List.{drop_all, drop_more}
use Rattle.cdc_base.specs.declared.bit.Bit.{Bit}
use Rattle.cdc_model.specs.Found.{crossings_of, crossings_into, crossings_among}
use Rattle.cdc_model.specs.Tables.{ShowsNet}
use Rattle.crossings.proofs.Exact.{bit-within}
use Rattle.cert_check.specs.Served.{AreWalked, IsWalked}
use Rattle.cert_check.proofs.Walks.{walked_more, bare_among, all_walked}
use Rattle.cert_check.proofs.served.first_bare.Goals as goal

abbrev none : Bit
none = record { sig = 0; at = 0 }

pub loop-to-preserved : goal.loop-to-preserved
loop-to-preserved c = record {
  same = c.in_ok-walked.ensures.unchanged ∙ c.loop-to.invariant.same;
  walked = λ is has fit shown sorted.
      let net = c.args.net.now in
      let domains = c.args.domains.now in
      let bits = c.as_slice-to-items.result.now in
      let served = c.args.served.now in
      let i = c.loop-to.to-index in
      let lt = c.loop-to-test.true in
      walked_more served (crossings_of net domains) (crossings_into net domains (get_or bits i none)) (crossings_among net domains (drop (i + 1) bits)) c.loop-to.count c.in-Served.more _
      (subst (λ ks. AreWalked served (crossings_of net domains) ks c.loop-to.count) (ap (crossings_among net domains) (drop_more bits i none lt)) (c.loop-to.invariant.walked is has fit shown sorted))
      (subst (IsWalked served (crossings_into net domains (get_or bits i none))) c.in-Served.is
      (c.in_ok-walked.ensures.walked is has fit (subst (ShowsNet net []) (sym c.loop-to.invariant.same) shown) (c.in_ok-below.ensures is.graph)
      (bit-within net bits i none (c.as_slice-to-items.ensures ∙ c.in_ok-bits.ensures) lt) sorted))
      c.in_ok-count-in-Served.ensures;
}

pub returns-in-Bare : goal.returns-in-Bare
returns-in-Bare c = λ is has fit shown sorted.
    let net = c.args.net.now in
    let domains = c.args.domains.now in
    let bits = c.as_slice-to-items.result.now in
    let served = c.args.served.now in
    let i = c.loop-to.to-index in
    let lt = c.loop-to-test.true in
    bare_among served (crossings_of net domains) (crossings_into net domains (get_or bits i none)) (crossings_among net domains (drop (i + 1) bits)) c.loop-to.count c.in-Bare.crossing
    (subst (λ ks. AreWalked served (crossings_of net domains) ks c.loop-to.count) (ap (crossings_among net domains) (drop_more bits i none lt)) (c.loop-to.invariant.walked is has fit shown sorted))
    (subst (IsWalked served (crossings_into net domains (get_or bits i none))) c.in-Bare.is
    (c.in_ok-walked.ensures.walked is has fit (subst (ShowsNet net []) (sym c.loop-to.invariant.same) shown) (c.in_ok-below.ensures is.graph)
    (bit-within net bits i none (c.as_slice-to-items.ensures ∙ c.in_ok-bits.ensures) lt) sorted))

pub returns : goal.returns
returns c = λ is has fit shown sorted.
    let net = c.args.net.now in
    let domains = c.args.domains.now in
    let bits = c.as_slice-to-items.result.now in
    all_walked c.args.served.now (crossings_of net domains) (crossings_among net domains (drop c.loop-to.to-index bits)) c.loop-to.count
    (ap (crossings_among net domains) (drop_all c.loop-to.to-index bits c.loop-to-test.false)) (c.loop-to.invariant.walked is has fit shown sorted)

-- The crossing from one bit more is served, or isn't.
use Rattle.std.proofs.Common.{ap, subst, [], ◌∷◌, get_or, drop, ◌+◌}
use Rattle.std.proofs.lemmas.List.{drop_all}
use Rattle.cdc_base.specs.declared.bit.Bit.{Bit}
use Rattle.cdc_model.specs.Found.{crossings_from}
use Rattle.cert_check.specs.Served.{AreWalked, IsWalked}
use Rattle.cert_check.proofs.Walks.{none_yet, walked_more, bare_among, all_walked, from_step}
use Rattle.cert_check.proofs.served.first_bare_from.Goals as goal

abbrev none : Bit
none = record { sig = 0; at = 0 }

pub loop-from-init : goal.loop-from-init
loop-from-init c = λ sorted. none_yet c.args.served.now (crossings_from c.args.domains.now c.args.to c.args.reads.now)

pub loop-from-preserved : goal.loop-from-preserved
loop-from-preserved c = λ sorted.
    let domains = c.args.domains.now in
    let x = c.args.to in
    let bits = c.args.reads.now in
    let served = c.args.served.now in
    let i = c.loop-from.from-index in
    walked_more served (crossings_from domains x bits) (crossings_from domains x (get_or bits i none ∷ [])) (crossings_from domains x (drop (i + 1) bits)) c.loop-from.count c.in-Served.more _
    (subst (λ ks. AreWalked served (crossings_from domains x bits) ks c.loop-from.count) (from_step domains x bits i none c.loop-from-test.true) (c.loop-from.invariant sorted))
    (subst (IsWalked served (crossings_from domains x (get_or bits i none ∷ []))) c.in-Served.is (c.walked_from.ensures sorted)) c.in_ok-count-in-Served.ensures

pub returns-in-Bare : goal.returns-in-Bare
returns-in-Bare c = λ sorted.
    let domains = c.args.domains.now in
    let x = c.args.to in
    let bits = c.args.reads.now in
    let served = c.args.served.now in
    let i = c.loop-from.from-index in
    bare_among served (crossings_from domains x bits) (crossings_from domains x (get_or bits i none ∷ [])) (crossings_from domains x (drop (i + 1) bits)) c.loop-from.count c.in-Bare.crossing
    (subst (λ ks. AreWalked served (crossings_from domains x bits) ks c.loop-from.count) (from_step domains x bits i none c.loop-from-test.true) (c.loop-from.invariant sorted))
    (subst (IsWalked served (crossings_from domains x (get_or bits i none ∷ []))) c.in-Bare.is (c.walked_from.ensures sorted))

pub returns : goal.returns
returns c = λ sorted.
    let domains = c.args.domains.now in
    let x = c.args.to in
    let bits = c.args.reads.now in
    all_walked c.args.served.now (crossings_from domains x bits) (crossings_from domains x (drop c.loop-from.from-index bits)) c.loop-from.count
    (ap (crossings_from domains x) (drop_all c.loop-from.from-index bits c.loop-from-test.false)) (c.loop-from.invariant sorted)

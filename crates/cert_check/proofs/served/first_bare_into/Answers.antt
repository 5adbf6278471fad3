-- All bits that the register bit reads are known, and those of another group make its crossings.
use Rattle.std.proofs.Common.{◌∙◌, [], ap, sym, subst}
use Rattle.cofactor.proofs.Places.{if_ok}
use Rattle.cdc_model.specs.Found.{crossings_from}
use Rattle.crossings.proofs.Exact.{into-all}
use Rattle.cert_check.specs.declared.served.Walked.TheVariants.{Served}
use Rattle.cert_check.specs.Served.{IsWalked}
use Rattle.cert_check.proofs.Walks.{none_served}
use Rattle.cert_check.proofs.served.first_bare_into.Goals as goal

pub returns-then-not-may_cross-clause-walked : goal.returns-then-not-may_cross-clause-walked
returns-then-not-may_cross-clause-walked c = λ is has fit shown groups l sorted.
    subst (λ ks. IsWalked c.args.served.now ks (Served 0)) (sym (c.may_cross.ensures c.if-not-may_cross.true is has fit groups l)) (none_served c.args.served.now)

pub returns-clause-walked : goal.returns-clause-walked
returns-clause-walked c = if_ok c.first_bare_from.result
    (λ walked h is has fit shown groups l sorted.
    subst (λ ks. IsWalked c.args.served.now ks walked)
    (ap (crossings_from c.args.domains.now c.args.to) (c.as_slice.ensures ∙ c.in_ok-reads.ensures.exact [] is has shown l) ∙ into-all c.args.net.now c.args.domains.now c.args.to is has fit l) (h sorted))
    c.first_bare_from.ensures

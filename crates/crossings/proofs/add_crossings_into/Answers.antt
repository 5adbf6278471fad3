-- All bits that the register bit reads are known, and those of another group make its crossings.
use Rattle.std.proofs.Common.{◌∙◌, ◌++◌, ◌<◌, [], ap, subst, length}
use Rattle.cdc_base.specs.declared.limits.TheConstants.{MAX_CROSSINGS}
use Rattle.cofactor.proofs.Places.{if_ok}
use Rattle.cdc_model.specs.Found.{crossings_from}
use Rattle.crossings.proofs.Exact.{into-all, cause-map, if_err}
use Rattle.crossings.proofs.add_crossings_into.Goals as goal

pub returns-clause-added : goal.returns-clause-added
returns-clause-added c = if_ok c.add_crossings.result
    (λ u added is has fit shown groups l.
    added ∙ ap (λ ks. c.args.crossings.now ++ ks)
    (ap (crossings_from c.args.domains.now c.args.to) (c.as_slice.ensures ∙ c.in_ok-reads.ensures.exact [] is has shown l) ∙ into-all c.args.net.now c.args.domains.now c.args.to is has fit l))
    c.add_crossings.ensures.added

pub returns-clause-full : goal.returns-clause-full
returns-clause-full c = if_err c.add_crossings.result
    (λ s. cause-map 603 s (λ over is has fit shown l. subst (λ ks. MAX_CROSSINGS < length (c.args.crossings.now ++ ks))
    (ap (crossings_from c.args.domains.now c.args.to) (c.as_slice.ensures ∙ c.in_ok-reads.ensures.exact [] is has shown l) ∙ into-all c.args.net.now c.args.domains.now c.args.to is has fit l) over))
    c.add_crossings.ensures.full

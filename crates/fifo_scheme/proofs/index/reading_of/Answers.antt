use Rattle.std.proofs.Common.{◌∙◌, ap, refl, arith, []}
use Rattle.std.specs.Prelude.{filter}
use Rattle.fifo_scheme.specs.Indexed.{is_apart}
use Rattle.fifo_scheme.proofs.IndexReadings.{no_crossings, reads_none}
use Rattle.fifo_scheme.proofs.index.reading_of.Goals as goal

pub returns-then-not-may_cross-clause-found : goal.returns-then-not-may_cross-clause-found
returns-then-not-may_cross-clause-found c = λ is has fit shows groups within.
    no_crossings c.args.net.now c.args.domains.now is has fit c.args.bit within (c.may_cross.ensures c.if-not-may_cross.true is has fit groups within)

pub returns-then-len-gt0-clause-found : goal.returns-then-len-gt0-clause-found
returns-then-len-gt0-clause-found c = λ is has fit shows groups within. (
  refl,
  c.in_ok-reads.ensures
      ∙ ap (filter (is_apart c.args.domains.now c.args.bit)) (c.as_slice.ensures ∙ c.in_ok-all.ensures.exact [] is has shows within),
)

pub returns-clause-found : goal.returns-clause-found
returns-clause-found c = λ is has fit shows groups within.
    reads_none c.args.net.now c.args.domains.now c.args.bit c.in_ok-reads.reads
    (c.in_ok-reads.ensures
    ∙ ap (filter (is_apart c.args.domains.now c.args.bit)) (c.as_slice.ensures ∙ c.in_ok-all.ensures.exact [] is has shows within))
    (omega arith)

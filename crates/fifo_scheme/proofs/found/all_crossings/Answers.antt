-- They are those of the FIFOs, by their ends.
use Rattle.std.proofs.Common.{◌≡◌, ◌∙◌, ◌↔◌, List, Contains, ◌++◌, ap, append-nil, arith, sym, subst}
use Rattle.std.proofs.lemmas.List.{drop_all}
use Rattle.cdc_model.specs.declared.scheme.Crossing.{Crossing}
use Rattle.cdc_model.specs.Ordered.{IsAscending}
use Rattle.cdc_model.specs.Verdict.{crossing_key}
use Rattle.fifo_scheme.specs.declared.found.Ended.{Ended}
use Rattle.fifo_scheme.specs.Ended.{all_ended, ended_key}
use Rattle.fifo_scheme.specs.Entries.{IsCrossingOfOne}
use Rattle.fifo_scheme.proofs.Ends.{all_of_ends}
use Rattle.fifo_scheme.proofs.Order.{listed_ascends}
use Rattle.fifo_scheme.proofs.found.all_crossings.Goals as goal

pub returns-clause-same : goal.returns-clause-same
returns-clause-same c =
    let ended = c.loop-fifo.ended.items in
    let all : ended ≡ all_ended c.args.fifos.now = sym (c.loop-fifo.invariant
    ∙ ap (λ es. ended ++ all_ended es) (drop_all c.loop-fifo.fifo-index c.args.fifos.now (let l = c.loop-fifo-test.false in omega arith))
    ∙ append-nil ended) in
    let listed = c.in_ok-crossings.ensures in
    let there = c.as_slice-2.ensures.value in
    λ k. subst (λ (cs : List Crossing). Contains cs k ↔ IsCrossingOfOne c.args.fifos.now k) (sym listed)
    (all_of_ends c.args.fifos.now ended c.as_slice-2.result.now all (λ x. subst (λ (xs : List Ended). Contains xs x
    ↔ Contains ended x) (sym there) (c.into_order-ordered.ensures.same x)) k)

pub returns-clause-ordered : goal.returns-clause-ordered
returns-clause-ordered c = subst (IsAscending crossing_key) (sym c.in_ok-crossings.ensures)
    (listed_ascends c.as_slice-2.result.now (subst (IsAscending ended_key) (sym c.as_slice-2.ensures.value) c.into_order-ordered.ensures.ordered))

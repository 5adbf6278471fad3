-- One flop more, or none.
use Rattle.std.proofs.Common.{◌≡◌, ◌∙◌, sym, ap, Some, None, List, [], ◌∷◌, ◌++◌, ◌-◌, ◌+◌}
use Rattle.cdc_base.specs.declared.bit.Bit.{Bit}
use Rattle.cdc_model.specs.Syncs.{next_flop, flops_behind}
use Rattle.two_flop.proofs.Chains.{last_kept, next_kept, chain_more, chain_ends, chain_full}
use Rattle.two_flop.proofs.chain.Goals as goal

pub loop-init : goal.loop-init
loop-init c = λ is has shown kept. (
  kept,
  ap (λ (fs : List Bit). fs ++ flops_behind c.args.net.now c.args.domains.now 3 c.args.first) (sym (c.in_ok-push.ensures.pushed ∙ ap (λ (fs : List Bit). fs ++ c.args.first ∷ []) c.new-flops.ensures)),
)

pub loop-preserved : goal.loop-preserved
loop-preserved c = λ is has shown kept.
    let net = c.args.net.now in
    let domains = c.args.domains.now in
    let readers = c.args.readers.now in
    let whole = c.args.first ∷ flops_behind net domains 3 c.args.first in
    let h = c.loop.invariant is has shown kept in
    let next : next_flop net domains c.loop.last ≡ Some c.in-Some.next =
    sym (c.next_flop.ensures is has shown (last_kept net domains readers whole c.loop.flops c.loop.counter c.loop-test.true c.loop.last h.0)) ∙ c.in-Some.is in (
      next_kept net domains readers whole c.loop.flops c.loop.counter c.loop-test.true c.loop.last c.in-Some.next next h.0,
      chain_more net domains readers whole c.loop.flops c.loop.counter c.loop-test.true c.loop.last c.in-Some.next next h.1
          ∙ ap (λ (fs : List Bit). fs ++ flops_behind net domains (3 - (c.loop.counter + 1)) c.in-Some.next) (sym c.in_ok-push-2.ensures.pushed),
    )

pub returns-in_default : goal.returns-in_default
returns-in_default c = λ is has shown kept.
    let net = c.args.net.now in
    let domains = c.args.domains.now in
    let readers = c.args.readers.now in
    let whole = c.args.first ∷ flops_behind net domains 3 c.args.first in
    let h = c.loop.invariant is has shown kept in
    chain_ends net domains readers whole c.loop.flops c.loop.counter c.loop-test.true c.loop.last
    (sym (c.next_flop.ensures is has shown (last_kept net domains readers whole c.loop.flops c.loop.counter c.loop-test.true c.loop.last h.0)) ∙ c.in_default.is) h.1

pub returns : goal.returns
returns c = λ is has shown kept.
    chain_full c.args.net.now c.args.domains.now (c.args.first ∷ flops_behind c.args.net.now c.args.domains.now 3 c.args.first) c.loop.flops c.loop.counter c.loop.last c.loop-test.false
    (c.loop.invariant is has shown kept).1

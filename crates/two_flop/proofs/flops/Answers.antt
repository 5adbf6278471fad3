-- Each round marks the copies of what was marked.
use Rattle.std.proofs.Common.{◌≡◌, ◌∙◌, ◌+◌, inl, inr, suc, sym, subst, arith}
use Rattle.two_flop.specs.Flops.{IsReached}
use Rattle.cdc_base.specs.declared.bit.Bit.{Bit}
use Rattle.std.proofs.Common.{List, Contains}
use Rattle.two_flop.proofs.Chains.{register_listed}
use Rattle.two_flop.proofs.flops.Goals as goal

pub loop-preserved : goal.loop-preserved
loop-preserved c = record {
  counted = c.mark_copies.ensures.counted ∙ c.loop.invariant.counted;
  marked = λ is has shown ends x r.
      elim (subst (λ n. IsReached c.args.net.now c.args.crossings.now n x) (let e : c.loop.counter + 1 ≡ suc c.loop.counter = omega arith in e) r) [
        | inl h ↦ c.mark_copies.ensures.kept x.sig (c.loop.invariant.marked is has shown ends x h)
        | inr h ↦ c.mark_copies.ensures.marked is has shown c.loop.invariant.counted x h.0
            (subst (λ (bits : List Bit). Contains bits x) (sym (c.as_slice.ensures ∙ c.in_ok-bits.ensures)) (register_listed c.args.net.now x h.2)) h.2 h.3
            (c.loop.invariant.marked is has shown ends h.0 h.1)
      ];
}

pub returns : goal.returns
returns c = λ is has shown ends x r.
    c.loop.invariant.marked is has shown ends x (subst (λ n. IsReached c.args.net.now c.args.crossings.now n x) (let e : 3 ≡ c.loop.counter = omega arith in e) r)

use Rattle.std.proofs.Common.{◌≡◌, ◌∙◌, ◌++◌, ap, ap₂, sym, arith, length}
use Rattle.settling_sim.specs.State.{is_clocked_input}
use Rattle.campaign.specs.Numbers.{numbers_from, one_if}
use Rattle.campaign.proofs.Counted.{one-more, no-more}
use Rattle.campaign.proofs.inputs.clocked_inputs.Goals as goal

pub loop-place-preserved : goal.loop-place-preserved
loop-place-preserved c = λ small.
    let n = ap length c.signals-count.ensures in
    let lt = c.loop-place-test.true in
    let is : c.number_of-sig.result ≡ c.loop-place.place = c.number_of-sig.ensures (omega (arith, small, n, lt)) in
    c.loop-place.invariant small ∙ one-more (is_clocked_input c.args.net.now c.args.domains.now) c.loop-place.inputs _ c.loop-place.place (length c.signals-count.result.now) lt
    (c.in_ok-add_if.ensures ∙ ap (λ xs. c.loop-place.inputs ++ xs) (ap₂ one_if (c.is_clocked_input.ensures ∙ ap (is_clocked_input c.args.net.now c.args.domains.now) is) is))

pub returns : goal.returns
returns c = λ small.
    sym (no-more (is_clocked_input c.args.net.now c.args.domains.now) c.loop-place.inputs c.loop-place.place (length c.signals-count.result.now) c.loop-place-test.false (c.loop-place.invariant small))
    ∙ ap (λ n. numbers_from (is_clocked_input c.args.net.now c.args.domains.now) 0 n) (ap length c.signals-count.ensures)

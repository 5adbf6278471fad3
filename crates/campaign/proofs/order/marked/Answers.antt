use Rattle.std.proofs.Common.{◌≡◌, ◌∙◌, ◌++◌, Some, ap, ap₂, sym, arith}
use Rattle.settling_sim.specs.Edges.{is_marked}
use Rattle.campaign.specs.Numbers.{one_if}
use Rattle.campaign.proofs.Counted.{one-more, no-more}
use Rattle.campaign.proofs.order.marked.Goals as goal

pub loop-place-preserved : goal.loop-place-preserved
loop-place-preserved c = λ small.
    let lt = c.loop-place-test.true in
    let is : c.number_of.result ≡ c.loop-place.place = c.number_of.ensures (omega (arith, small, lt)) in
    c.loop-place.invariant small ∙ one-more (λ n. is_marked c.args.ticking.now (Some n)) c.loop-place.listed _ c.loop-place.place c.args.clocks lt
    (c.in_ok-add_if.ensures ∙ ap (λ xs. c.loop-place.listed ++ xs) (ap₂ one_if c.ticks_at.ensures is))

pub returns : goal.returns
returns c = λ small. sym (no-more (λ n. is_marked c.args.ticking.now (Some n)) c.loop-place.listed c.loop-place.place c.args.clocks c.loop-place-test.false (c.loop-place.invariant small))

use Rattle.std.proofs.Common.{◌≡◌, ◌∙◌, ◌++◌, true, ap, sym, arith}
use Rattle.campaign.specs.Numbers.{one_if}
use Rattle.campaign.proofs.Counted.{one-more, no-more}
use Rattle.campaign.proofs.edges.all_clocks.Goals as goal

pub loop-place-preserved : goal.loop-place-preserved
loop-place-preserved c = λ small.
    let is : c.number_of.result ≡ c.loop-place.place = c.number_of.ensures (omega (arith, small)) in
    c.loop-place.invariant small ∙ one-more (λ n. true) c.loop-place.edges _ c.loop-place.place c.args.clocks (omega arith)
    (c.in_ok-add_if.ensures ∙ ap (λ xs. c.loop-place.edges ++ xs) (ap (one_if true) is))

pub returns : goal.returns
returns c = λ small. sym (no-more (λ n. true) c.loop-place.edges c.loop-place.place c.args.clocks (omega arith) (c.loop-place.invariant small))

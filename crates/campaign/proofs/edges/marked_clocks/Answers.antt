use Rattle.std.proofs.Common.{◌≡◌, ◌∙◌, ◌%◌, ◌++◌, ap, ap₂, sym, arith}
use Rattle.cell_graph.specs.Tree.{bit_at}
use Rattle.campaign.specs.Numbers.{one_if}
use Rattle.campaign.proofs.Counted.{one-more, no-more}
use Rattle.campaign.proofs.edges.marked_clocks.Goals as goal

pub loop-place-preserved : goal.loop-place-preserved
loop-place-preserved c = λ small.
    let is : c.number_of-clock.result ≡ c.loop-place.place = c.number_of-clock.ensures (omega (arith, small)) in
    c.loop-place.invariant small ∙ one-more (λ n. bit_at c.args.word (n % 64)) c.loop-place.edges _ c.loop-place.place c.args.clocks (omega arith)
    (c.in_ok-add_if.ensures ∙ ap (λ xs. c.loop-place.edges ++ xs) (ap₂ one_if (c.is_set.ensures ∙ ap (λ n. bit_at c.args.word (n % 64)) is) is))

pub returns : goal.returns
returns c = λ small. sym (no-more (λ n. bit_at c.args.word (n % 64)) c.loop-place.edges c.loop-place.place c.args.clocks (omega arith) (c.loop-place.invariant small))

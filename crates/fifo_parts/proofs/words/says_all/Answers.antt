-- A bit isn't said.
use Rattle.std.proofs.Common.{◌∙◌, ◌-◌, ◌<◌, sym, ap, arith}
use Rattle.cell_graph.specs.Tree.{bit_at}
use Rattle.fifo_parts.specs.Words.{is_said}
use Rattle.fifo_parts.proofs.Listed.{some_false}
use Rattle.fifo_parts.proofs.words.says_all.Goals as goal

pub returns-then-not-is_said : goal.returns-then-not-is_said
returns-then-not-is_said c =
    let g = c.args.net.now.graph in
    let side = c.args.side.now in
    let at = c.loop-at.at in
    let lt : at < side.width - 1 = omega (arith, c.loop-at-test.true, c.saturating_sub-at-end.ensures) in
    sym (some_false (λ i. is_said g side.reg.count side.width c.args.terms.now i (bit_at c.args.word i)) (side.width - 1) at lt
    (ap (is_said g side.reg.count side.width c.args.terms.now at) (sym c.has_bit-value.ensures) ∙ sym c.is_said.ensures ∙ c.if-not-is_said.true))

-- The next bit starts at 0, or doesn't.
use Rattle.std.proofs.Common.{◌∙◌, sym}
use Rattle.fifo_parts.proofs.Starts.{next_starts, starts_false, starts_other}
use Rattle.fifo_parts.proofs.side.starts_at_zero.Goals as goal

pub returns-then-ne : goal.returns-then-ne
returns-then-ne c = (
  λ e. cc,
  λ all.
      let n = next_starts c.args.net.now.graph.signals c.args.bit.sig c.loop-at.at c.width_of-at-end.result c.loop-at-test.true in
      absurd (starts_other c.start_value.result (sym c.ne.ensures ∙ c.if-ne.true) (c.start_value.ensures ∙ (n.0 (c.loop-at.invariant.0 all)).0)),
)

pub loop-at-preserved : goal.loop-at-preserved
loop-at-preserved c =
    let n = next_starts c.args.net.now.graph.signals c.args.bit.sig c.loop-at.at c.width_of-at-end.result c.loop-at-test.true in (
      λ all. (n.0 (c.loop-at.invariant.0 all)).1,
      λ rest. c.loop-at.invariant.1 (n.1
          (sym c.start_value.ensures ∙ starts_false c.start_value.result (sym c.ne.ensures ∙ c.if-ne.false), rest)),
    )

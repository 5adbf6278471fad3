use Rattle.std.proofs.Common.{◌^◌, ◌∙◌}
use Rattle.verilog_lex.proofs.number.open_bits.Goals as goal
use Rattle.verilog_lex.proofs.number.open_bits.Goals.{then-digit-ne95, else-digit-ne95}
use Rattle.verilog_lex.proofs.Opens.{opens_next, opens_skip}

pub loop-digit-preserved : goal.loop-digit-preserved
loop-digit-preserved c = elim c.if-digit-ne95.branch [
  | then-digit-ne95 w ↦ c.loop-digit.invariant ∙ opens_next (2 ^ 64) c.args.base c.loop-digit.bits c.loop-digit.digit-index w.from.result w.from-then-digit-ne95.result
      c.if-digit-ne95.bits c.args.digits.now c.loop-digit-test.true w.if-digit-ne95.true w.from.ensures (w.from-then-digit-ne95.ensures ∙ w.opened.ensures) w.bits-is
  | else-digit-ne95 w ↦ c.loop-digit.invariant ∙ opens_skip (2 ^ 64) c.args.base c.loop-digit.bits c.loop-digit.digit-index
      c.if-digit-ne95.bits c.args.digits.now c.loop-digit-test.true w.if-digit-ne95.false w.bits-is
]

use Rattle.std.proofs.Common.{◌-◌, arith, rules}
use Rattle.verilog_parse.specs.Printed.{mask_digits}
use Rattle.verilog_parse.proofs.TextSteps.{digits_next}
use Rattle.verilog_parse.proofs.text.token.put_mask_digits.Goals as goal

pub loop-left-preserved : goal.loop-left-preserved
loop-left-preserved c = let e = c.in_ok-put.ensures in let f = c.mask_digit.ensures in
    digits_next c.args.out.now.items c.loop-left.out.items c.put.new.out.items c.args.value c.args.«open» c.loop-left.left (c.loop-left.left - 1)
    (mask_digits c.args.width c.args.value c.args.«open») c.loop-left.invariant (omega (arith, c.loop-left-test.true)) (search (rules, e, f, c.bit.ensures, c.bit-in-loop-left.ensures))

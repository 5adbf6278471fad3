use Rattle.std.proofs.Common.{◌≡◌, ◌++◌}
use Rattle.verilog_parse.specs.Printed.{mask_digits}
use Rattle.verilog_parse.proofs.text.token.put_mask_digits.Given as goal

abbrev pub invariant-loop-left : goal.invariant-loop-left
invariant-loop-left l = l.initial.out.items ++ mask_digits l.width l.value l.«open» ≡ l.out.items ++ mask_digits l.left l.value l.«open»

abbrev pub decreases-loop-left : goal.decreases-loop-left
decreases-loop-left l = l.left

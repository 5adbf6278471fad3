use Rattle.std.proofs.Common.{◌≡◌, ◌%◌, ◌^◌, drop}
use Rattle.verilog_lex.specs.Numbers.{open_in, open_above}
use Rattle.verilog_lex.proofs.number.open_bits.Given as goal

abbrev pub invariant-loop-digit : goal.invariant-loop-digit
invariant-loop-digit l =
    open_in l.base (open_above l.digits) l.digits % 2 ^ 64 ≡ open_in l.base l.bits (drop l.digit-index l.digits) % 2 ^ 64

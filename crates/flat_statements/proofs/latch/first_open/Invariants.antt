use Rattle.std.proofs.Common.{take}
use Rattle.flat_statements.specs.Latches.{some_bit, open_bits}
use Rattle.flat_statements.proofs.Firsts.{IsLeast}
use Rattle.flat_statements.proofs.latch.first_open.Given as goal

abbrev pub invariant-loop-sig : goal.invariant-loop-sig
invariant-loop-sig l = IsLeast (λ s. some_bit (open_bits l.may l.paths s)) (take l.sig-index l.sig-items) l.first

-- All bits start so where those to come do.
use Rattle.std.proofs.Common.{◌≡◌, drop}
use Rattle.handshake.specs.Pairs.{all_start}
use Rattle.handshake.proofs.candidates.all_start.Given as goal

abbrev pub invariant-loop-bit : goal.invariant-loop-bit
invariant-loop-bit l = all_start l.net l.bits l.value ≡ all_start l.net (drop l.bit-index l.bits) l.value

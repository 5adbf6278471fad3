-- All bits are those that are there and the flops to come.
use Rattle.std.proofs.Common.{◌≡◌, ◌++◌, drop}
use Rattle.handshake.proofs.add_all.Given as goal

abbrev pub invariant-loop-flop : goal.invariant-loop-flop
invariant-loop-flop l = l.initial.bits ++ l.flops ≡ l.bits ++ drop l.flop-index l.flops

use Rattle.std.proofs.Common.{◌≡◌, take}
use Rattle.domains.proofs.assignment.copy_clocks.Given as goal

abbrev pub invariant-loop-clock : goal.invariant-loop-clock
invariant-loop-clock l = l.copies ≡ take l.clock-index l.clocks

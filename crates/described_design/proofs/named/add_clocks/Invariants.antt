use Rattle.std.proofs.Common.{◌≡◌, ◌++◌, map, take}
use Rattle.described_design.proofs.named.add_clocks.Given as goal

abbrev pub invariant-loop-clock : goal.invariant-loop-clock
invariant-loop-clock l = l.names ≡ l.initial.names ++ map (λ c. c.name) (take l.clock-index l.clocks)

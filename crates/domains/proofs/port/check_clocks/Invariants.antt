use Rattle.std.proofs.Common.{◌≡◌, map, drop}
use Rattle.domains.specs.Tables.{found_in}
use Rattle.domains.specs.Ports.{wide}
use Rattle.domains.proofs.port.check_clocks.Given as goal

abbrev pub invariant-loop-clock : goal.invariant-loop-clock
invariant-loop-clock l = wide 407 (λ q. found_in l.ports q) (map (λ c. c.name) l.clocks)
    ≡ wide 407 (λ q. found_in l.ports q) (map (λ c. c.name) (drop l.clock-index l.clocks))

use Rattle.std.proofs.Common.{◌≡◌, map, drop}
use Rattle.domains.specs.Tables.{found_in}
use Rattle.domains.specs.Ports.{wide}
use Rattle.domains.proofs.port.check_resets.Given as goal

abbrev pub invariant-loop-reset : goal.invariant-loop-reset
invariant-loop-reset l = wide 408 (λ q. found_in l.ports q) (map (λ c. c.name) l.resets)
    ≡ wide 408 (λ q. found_in l.ports q) (map (λ c. c.name) (drop l.reset-index l.resets))

use Rattle.std.proofs.Common.{◌≡◌, drop}
use Rattle.domains.specs.Tables.{found_in, pairs_of}
use Rattle.domains.specs.Ports.{lost}
use Rattle.domains.proofs.port.check_found.Given as goal

abbrev pub invariant-loop-name : goal.invariant-loop-name
invariant-loop-name l = lost (λ q. found_in l.ports q) (pairs_of l.roles)
    ≡ lost (λ q. found_in l.ports q) (pairs_of (drop l.name-index l.roles))

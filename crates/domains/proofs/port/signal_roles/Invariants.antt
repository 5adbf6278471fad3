use Rattle.std.proofs.Common.{◌≡◌, drop, ◌++◌, Ok}
use Rattle.clock_constraints.specs.Refusals.{◌>>=◌}
use Rattle.domains.specs.Tables.{found_in}
use Rattle.domains.specs.Ports.{signal_roles}
use Rattle.domains.proofs.port.signal_roles.Given as goal

abbrev pub invariant-loop-signal : goal.invariant-loop-signal
invariant-loop-signal l = signal_roles (λ q. found_in l.declared q) l.signals
    ≡ (signal_roles (λ q. found_in l.declared q) (drop l.signal-index l.signals) >>= (λ rest. Ok (l.roles ++ rest)))

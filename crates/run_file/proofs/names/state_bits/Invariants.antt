use Rattle.std.proofs.Common.{◌≡◌, ◌++◌, drop, Ok}
use Rattle.clock_constraints.specs.Refusals.{◌>>=◌}
use Rattle.run_file.specs.Names.{each, state_bit}
use Rattle.run_file.specs.Tables.{CanName}
use Rattle.run_file.proofs.names.state_bits.Given as goal

abbrev pub invariant-loop-name : goal.invariant-loop-name
invariant-loop-name l = CanName l.net l.domains l.names → each (state_bit l.net l.domains) l.bits
    ≡ (each (state_bit l.net l.domains) (drop l.name-index l.bits) >>= (λ rest. Ok (l.found ++ rest)))

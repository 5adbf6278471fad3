use Rattle.std.proofs.Common.{◌≡◌, ◌++◌, drop, Ok}
use Rattle.clock_constraints.specs.Refusals.{◌>>=◌}
use Rattle.run_file.specs.Names.{each, edge}
use Rattle.run_file.specs.Tables.{CanName}
use Rattle.run_file.proofs.names.edges.Given as goal

abbrev pub invariant-loop-name : goal.invariant-loop-name
invariant-loop-name l = CanName l.net l.domains l.names → each (edge l.domains.clocks) l.clocks
    ≡ (each (edge l.domains.clocks) (drop l.name-index l.clocks) >>= (λ rest. Ok (l.edges ++ rest)))

use Rattle.std.proofs.Common.{◌≡◌, ◌++◌, drop, Ok}
use Rattle.clock_constraints.specs.Refusals.{◌>>=◌}
use Rattle.run_file.specs.Names.{each, input_value}
use Rattle.run_file.specs.Tables.{CanName}
use Rattle.run_file.proofs.names.input_values.Given as goal

abbrev pub invariant-loop-entry : goal.invariant-loop-entry
invariant-loop-entry l = CanName l.net l.domains l.names → each (input_value l.net l.domains) l.entries
    ≡ (each (input_value l.net l.domains) (drop l.entry-index l.entries) >>= (λ rest. Ok (l.values ++ rest)))

use Rattle.std.proofs.Common.{◌≡◌, ◌++◌, drop, Ok, true}
use Rattle.clock_constraints.specs.Refusals.{◌>>=◌}
use Rattle.sdc_subset.specs.Commands.{are_ordinary}
use Rattle.sdc_subset.specs.Readings.{all_of}
use Rattle.sdc_subset.proofs.command.read_commands.Given as goal

abbrev pub invariant-loop-command : goal.invariant-loop-command
invariant-loop-command l = record {
  so_far : all_of l.commands ≡ (all_of (drop l.command-index l.commands) >>= (λ rest. Ok (l.read ++ rest)));
  ordinary : are_ordinary (drop l.command-index l.commands) ≡ true;
}

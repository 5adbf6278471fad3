use Rattle.std.proofs.Common.{◌≡◌, ◌++◌, drop}
use Rattle.sdc_subset.specs.Commands.{commands_in}
use Rattle.sdc_subset.proofs.commands.add_commands.Given as goal

abbrev pub invariant-loop-piece : goal.invariant-loop-piece
invariant-loop-piece l = l.initial.commands ++ commands_in l.piece-items ≡ l.commands ++ commands_in (drop l.piece-index l.piece-items)

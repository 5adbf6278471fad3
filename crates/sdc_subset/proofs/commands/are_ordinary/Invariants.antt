use Rattle.std.proofs.Common.{◌≡◌, drop}
use Rattle.sdc_subset.specs.Commands.{are_ordinary}
use Rattle.sdc_subset.proofs.commands.are_ordinary.Given as goal

abbrev pub invariant-loop-command : goal.invariant-loop-command
invariant-loop-command l = are_ordinary l.commands ≡ are_ordinary (drop l.command-index l.commands)

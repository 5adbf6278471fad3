use Rattle.std.proofs.Common.{◌≡◌, ◌++◌, drop}
use Rattle.sdc_subset.specs.Commands.{commands_of_lines}
use Rattle.sdc_subset.proofs.commands.commands.Given as goal

abbrev pub invariant-loop-line : goal.invariant-loop-line
invariant-loop-line l = commands_of_lines l.line-items ≡ l.commands ++ commands_of_lines (drop l.line-index l.line-items)

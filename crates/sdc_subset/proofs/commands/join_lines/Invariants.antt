use Rattle.std.proofs.Common.{◌≡◌, ◌++◌, drop}
use Rattle.sdc_subset.specs.Commands.{joined_behind}
use Rattle.sdc_subset.proofs.commands.join_lines.Given as goal

abbrev pub invariant-loop-at : goal.invariant-loop-at
invariant-loop-at l = joined_behind 0 l.text ≡ l.bytes ++ joined_behind l.passed (drop l.at l.text)

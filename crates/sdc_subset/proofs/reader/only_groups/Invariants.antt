use Rattle.std.proofs.Common.{◌≡◌, drop, []}
use Rattle.sdc_subset.specs.Meanings.{only_groups}
use Rattle.sdc_subset.proofs.reader.only_groups.Given as goal

abbrev pub invariant-loop-command : goal.invariant-loop-command
invariant-loop-command l = only_groups [] l.commands ≡ only_groups l.found (drop l.command-index l.commands)

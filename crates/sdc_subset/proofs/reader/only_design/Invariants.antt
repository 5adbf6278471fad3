use Rattle.std.proofs.Common.{◌≡◌, drop, None}
use Rattle.sdc_subset.specs.Meanings.{only_design}
use Rattle.sdc_subset.proofs.reader.only_design.Given as goal

abbrev pub invariant-loop-command : goal.invariant-loop-command
invariant-loop-command l = only_design None l.commands ≡ only_design l.top (drop l.command-index l.commands)

use Rattle.std.proofs.Common.{◌≡◌, ◌++◌, drop}
use Rattle.sdc_subset.specs.Pins.{mentions}
use Rattle.sdc_subset.proofs.pins.mentions.Given as goal

abbrev pub invariant-loop-command : goal.invariant-loop-command
invariant-loop-command l = mentions l.commands ≡ l.pins ++ mentions (drop l.command-index l.commands)

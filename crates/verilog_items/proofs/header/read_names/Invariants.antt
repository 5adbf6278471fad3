use Rattle.std.proofs.Common.{◌<◌, length}
use Rattle.verilog_items.proofs.HeaderSteps.{NamesOn}
use Rattle.verilog_items.proofs.header.read_names.Given as goal

abbrev pub invariant-loop-after : goal.invariant-loop-after
invariant-loop-after l = record {
  lists : NamesOn l.tokens l.list l.rest;
  shorter : length l.rest < length l.tokens;
}

abbrev pub decreases-loop-after : goal.decreases-loop-after
decreases-loop-after l = length l.rest

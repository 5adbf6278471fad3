use Rattle.std.proofs.Common.{◌≤◌, length}
use Rattle.verilog_items.proofs.InstanceSteps.{OrderedOn}
use Rattle.verilog_items.proofs.instance.read_ordered.Given as goal

abbrev pub invariant-loop-after : goal.invariant-loop-after
invariant-loop-after l = record {
  lists : OrderedOn 255 l.tokens l.values l.rest;
  shorter : length l.rest ≤ length l.tokens;
}

abbrev pub decreases-loop-after : goal.decreases-loop-after
decreases-loop-after l = length l.rest

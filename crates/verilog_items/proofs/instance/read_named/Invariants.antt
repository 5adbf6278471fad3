use Rattle.std.proofs.Common.{◌<◌, length}
use Rattle.verilog_items.proofs.InstanceSteps.{NamedOn}
use Rattle.verilog_items.proofs.instance.read_named.Given as goal

abbrev pub invariant-loop-after : goal.invariant-loop-after
invariant-loop-after l = record {
  lists : NamedOn 255 l.tokens l.conns l.rest;
  shorter : length l.rest < length l.tokens;
}

abbrev pub decreases-loop-after : goal.decreases-loop-after
decreases-loop-after l = length l.rest

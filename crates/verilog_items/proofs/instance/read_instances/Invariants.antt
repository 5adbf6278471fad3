use Rattle.std.proofs.Common.{◌<◌, length}
use Rattle.verilog_reading.specs.SourceTree.{conns_of}
use Rattle.verilog_items.proofs.InstanceSteps.{InstancesOn}
use Rattle.verilog_items.proofs.instance.read_instances.Given as goal

abbrev pub invariant-loop-after : goal.invariant-loop-after
invariant-loop-after l = record {
  lists : InstancesOn 255 l.place l.child (conns_of l.params.item) l.params.rest.now l.fn.items l.items l.rest;
  shorter : length l.rest < length l.tokens;
}

abbrev pub decreases-loop-after : goal.decreases-loop-after
decreases-loop-after l = length l.rest

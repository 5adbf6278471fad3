use Rattle.std.proofs.Common.{◌<◌, length}
use Rattle.verilog_items.proofs.InstanceSteps.{GatesOn}
use Rattle.verilog_items.proofs.instance.read_gate_list.Given as goal

abbrev pub invariant-loop-after : goal.invariant-loop-after
invariant-loop-after l = record {
  lists : GatesOn 255 l.place l.kind l.tokens l.fn.items l.items l.rest;
  shorter : length l.rest < length l.tokens;
}

abbrev pub decreases-loop-after : goal.decreases-loop-after
decreases-loop-after l = length l.rest

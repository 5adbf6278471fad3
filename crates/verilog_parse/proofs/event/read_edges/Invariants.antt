use Rattle.std.proofs.Common.{◌<◌, length}
use Rattle.verilog_parse.proofs.EventSteps.{EdgesOn}
use Rattle.verilog_parse.proofs.event.read_edges.Given as goal

abbrev pub invariant-loop-after : goal.invariant-loop-after
invariant-loop-after l = record {
  lists : EdgesOn l.tokens l.edges l.rest;
  shorter : length l.rest < length l.tokens;
}

abbrev pub decreases-loop-after : goal.decreases-loop-after
decreases-loop-after l = length l.rest

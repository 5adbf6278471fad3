use Rattle.std.proofs.Common.{◌<◌, length}
use Rattle.verilog_reading.specs.SourceTree.{maybe, bounds_of}
use Rattle.verilog_items.proofs.DeclSteps.{ParamsOn}
use Rattle.verilog_items.proofs.decl.read_params.Given as goal

abbrev pub invariant-loop-after : goal.invariant-loop-after
invariant-loop-after l = record {
  lists : ParamsOn 255 l.place l.local (maybe bounds_of l.range.item) l.range.rest.now l.fn.items l.items l.rest;
  shorter : length l.rest < length l.tokens;
}

abbrev pub decreases-loop-after : goal.decreases-loop-after
decreases-loop-after l = length l.rest

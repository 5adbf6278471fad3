use Rattle.std.proofs.Common.{◌<◌, length}
use Rattle.verilog_reading.specs.SourceTree.{maybe, bounds_of}
use Rattle.verilog_items.proofs.DeclSteps.{DeclsOn}
use Rattle.verilog_items.proofs.decl.read_vars.Given as goal

abbrev pub invariant-loop-after : goal.invariant-loop-after
invariant-loop-after l = record {
  lists : DeclsOn 255 l.place l.kind (maybe bounds_of l.range) l.tokens l.fn.items l.items l.rest;
  shorter : length l.rest < length l.tokens;
}

abbrev pub decreases-loop-after : goal.decreases-loop-after
decreases-loop-after l = length l.rest

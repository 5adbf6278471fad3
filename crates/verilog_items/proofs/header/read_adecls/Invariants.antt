use Rattle.std.proofs.Common.{◌<◌, length}
use Rattle.verilog_items.specs.Forms.{shape_of}
use Rattle.verilog_items.proofs.HeaderSteps.{Entries}
use Rattle.verilog_items.proofs.header.read_adecls.Given as goal

abbrev pub invariant-loop-after : goal.invariant-loop-after
invariant-loop-after l = record {
  lists : Entries 255 l.tokens l.list (shape_of l.shape) l.rest;
  shorter : length l.rest < length l.tokens;
}

abbrev pub decreases-loop-after : goal.decreases-loop-after
decreases-loop-after l = length l.rest

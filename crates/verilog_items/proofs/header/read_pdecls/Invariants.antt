use Rattle.std.proofs.Common.{◌<◌, length}
use Rattle.verilog_items.specs.Forms.{form_of}
use Rattle.verilog_items.proofs.HeaderSteps.{Params}
use Rattle.verilog_items.proofs.header.read_pdecls.Given as goal

abbrev pub invariant-loop-after : goal.invariant-loop-after
invariant-loop-after l = record {
  lists : Params 255 l.tokens l.params (form_of l.form) l.rest;
  shorter : length l.rest < length l.tokens;
}

abbrev pub decreases-loop-after : goal.decreases-loop-after
decreases-loop-after l = length l.rest

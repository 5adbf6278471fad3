use Rattle.std.proofs.Common.{◌≤◌, length}
use Rattle.verilog_parse.proofs.ModuleSteps.{ItemsOn}
use Rattle.verilog_parse.proofs.module.read_items.Given as goal

abbrev pub invariant-items : goal.invariant-items
invariant-items l = record {
  lists : ItemsOn 255 l.tokens l.items l.rest;
  shorter : length l.rest ≤ length l.tokens;
}

abbrev pub decreases-items : goal.decreases-items
decreases-items l = length l.rest

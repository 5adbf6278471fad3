use Rattle.std.proofs.Common.{◌≤◌, length}
use Rattle.verilog_parse.proofs.ModuleSteps.{ModulesOn}
use Rattle.verilog_parse.proofs.module.read_source.Given as goal

abbrev pub invariant-modules : goal.invariant-modules
invariant-modules l = record {
  lists : ModulesOn 255 l.tokens l.modules l.rest;
  shorter : length l.rest ≤ length l.tokens;
}

abbrev pub decreases-modules : goal.decreases-modules
decreases-modules l = length l.rest

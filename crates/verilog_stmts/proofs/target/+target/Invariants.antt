use Rattle.std.proofs.Common.{◌<◌, ◌+◌, ◌*◌, length}
use Rattle.verilog_reading.specs.TargetReader.{below}
use Rattle.verilog_stmts.specs.Forms.{targets_at}
use Rattle.verilog_stmts.proofs.TargetSteps.{TargetsOn}
use Rattle.verilog_stmts.proofs.target.+target.Given as goal

abbrev pub decreases-read_target : goal.decreases-read_target
decreases-read_target l = 2 * l.left

abbrev pub decreases-read_targets : goal.decreases-read_targets
decreases-read_targets l = 2 * l.left + 1

abbrev pub invariant-read_targets-loop-after : goal.invariant-read_targets-loop-after
invariant-read_targets-loop-after l = record {
  lists : TargetsOn l.left (targets_at (below l.left) l.tokens) l.targets l.rest;
  shorter : length l.rest < length l.tokens;
}

abbrev pub decreases-read_targets-loop-after : goal.decreases-read_targets-loop-after
decreases-read_targets-loop-after l = length l.rest

use Rattle.std.proofs.Common.{◌≡◌, map}
use Rattle.verilog_reading.specs.StmtTree.{stmt_tree_of}
use Rattle.generated_design.specs.Channels.{shifts, stage}
use Rattle.generated_design.proofs.channel.shifts.Given as goal

abbrev pub invariant-loop-place : goal.invariant-loop-place
invariant-loop-place l = record {
  copied : map stmt_tree_of l.steps ≡ shifts l.letter l.channel l.fn.source l.place;
  last : l.before ≡ stage l.letter l.channel l.fn.source l.place;
}

use Rattle.std.proofs.Common.{◌<◌, length}
use Rattle.verilog_reading.specs.StmtReader.{lower}
use Rattle.verilog_stmts.specs.Forms.{labels_at}
use Rattle.verilog_stmts.proofs.LabelSteps.{LabelsOn}
use Rattle.verilog_stmts.proofs.label.read_labels.Given as goal

abbrev pub invariant-loop-after : goal.invariant-loop-after
invariant-loop-after l = record {
  lists : LabelsOn l.left l.masks (labels_at (lower l.left) l.masks l.tokens) l.labels l.rest;
  shorter : length l.rest < length l.tokens;
}

abbrev pub decreases-loop-after : goal.decreases-loop-after
decreases-loop-after l = length l.rest

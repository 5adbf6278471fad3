use Rattle.verilog_reading.proofs.Depths.{expr_same, target_same, stmt_same, source_same}
use Rattle.verilog_reading.proofs.laws.depths_are_kept.Goals as goal

pub returns-clause-expressions : goal.returns-clause-expressions
returns-clause-expressions c = expr_same

pub returns-clause-targets : goal.returns-clause-targets
returns-clause-targets c = target_same

pub returns-clause-statements : goal.returns-clause-statements
returns-clause-statements c = stmt_same

pub returns-clause-sources : goal.returns-clause-sources
returns-clause-sources c = source_same

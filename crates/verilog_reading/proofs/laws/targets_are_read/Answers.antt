use Rattle.verilog_reading.specs.Reading.{IsTarget}
use Rattle.verilog_reading.specs.Stands.{TargetEnds}
use Rattle.verilog_reading.specs.TargetReader.{read_target}
use Rattle.verilog_reading.specs.ExprTree.{target_height}
use Rattle.verilog_reading.proofs.Targets.{says_targets, local_targets, c_target, above_targets}
use Rattle.verilog_reading.proofs.Unique.{one_reading}
use Rattle.verilog_reading.proofs.laws.targets_are_read.Goals as goal

pub returns-clause-says : goal.returns-clause-says
returns-clause-says c = says_targets

pub returns-clause-local : goal.returns-clause-local
returns-clause-local c = local_targets

pub returns-clause-complete : goal.returns-clause-complete
returns-clause-complete c = λ u a p. c_target p

pub returns-clause-deeper : goal.returns-clause-deeper
returns-clause-deeper c = above_targets

pub returns-clause-one : goal.returns-clause-one
returns-clause-one c = one_reading IsTarget target_height TargetEnds read_target (λ u a p. c_target p) (λ a. tt)

use Rattle.verilog_reading.specs.SourceTree.{source_of}
use Rattle.described_design.specs.ConstraintFiles.{last_name}
use Rattle.described_design.proofs.ConstraintNumbers.{constraint_stop}
use Rattle.described_design.proofs.SdcNumbers.{sdc_stop}
use Rattle.described_design.proofs.constraints.read_constraints.Goals as goal

pub returns-then-is_sdc-clause-numbered : goal.returns-then-is_sdc-clause-numbered
returns-then-is_sdc-clause-numbered c = sdc_stop c.args.con.now (last_name (source_of c.args.source.now)) _ c.read_sdc.ensures.gives

pub returns-else-is_sdc-clause-numbered : goal.returns-else-is_sdc-clause-numbered
returns-else-is_sdc-clause-numbered c = constraint_stop c.args.con.now _ c.read.ensures.refused

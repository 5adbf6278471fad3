use Rattle.verilog_reading.specs.ItemReader.{read_source}
use Rattle.verilog_reading.specs.ItemReading.{IsSource}
use Rattle.verilog_reading.specs.SourceTree.{source_height}
use Rattle.verilog_reading.specs.Stands.{SourceEnds}
use Rattle.verilog_reading.proofs.ItemSays.{says_sources}
use Rattle.verilog_reading.proofs.ItemLocal.{local_sources}
use Rattle.verilog_reading.proofs.ItemComplete.{c_source}
use Rattle.verilog_reading.proofs.ItemAbove.{above_sources}
use Rattle.verilog_reading.proofs.Unique.{one_reading}
use Rattle.verilog_reading.proofs.laws.sources_are_read.Goals as goal

pub returns-clause-says : goal.returns-clause-says
returns-clause-says c = says_sources

pub returns-clause-local : goal.returns-clause-local
returns-clause-local c = local_sources

pub returns-clause-complete : goal.returns-clause-complete
returns-clause-complete c = λ u a p k h rest _. c_source p k h rest

pub returns-clause-deeper : goal.returns-clause-deeper
returns-clause-deeper c = above_sources

pub returns-clause-one : goal.returns-clause-one
returns-clause-one c = one_reading IsSource source_height SourceEnds read_source (λ u a p k h rest _. c_source p k h rest) (λ a. tt)

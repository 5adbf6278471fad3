use Rattle.verilog_reading.specs.SourceTree.{source_of}
use Rattle.verilog_parse.proofs.SourceBack.{printable, reads_back}
use Rattle.verilog_parse.proofs.laws.printed_sources_are_read_back.Goals as goal

pub returns-clause-printable : goal.returns-clause-printable
returns-clause-printable c = λ text ts s e x. printable text ts (source_of s) e x

pub returns-clause-back : goal.returns-clause-back
returns-clause-back c = λ s p. reads_back (source_of s) p

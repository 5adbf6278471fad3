use Rattle.std.proofs.Common.{◌∙◌, ap, List}
use Rattle.verilog_parse.specs.Pieces.{source_pieces}
use Rattle.verilog_parse.specs.Printed.{bytes_of}
use Rattle.verilog_reading.specs.SourceTree.{ModuleTree}
use Rattle.selftest_command.specs.Selftests.{generated_text}
use Rattle.selftest_command.proofs.generated_text.Goals as goal

pub returns-clause-is : goal.returns-clause-is
unfolding generated_text
returns-clause-is c = c.in_ok-text.ensures.exact ∙ ap (λ (ms : List ModuleTree). bytes_of (source_pieces ms)) c.in_ok-source.ensures

use Rattle.std.proofs.Common.{map, drop}
use Rattle.verilog_parse.specs.Texts.{printed_module}
use Rattle.verilog_parse.proofs.TextSteps.{Rows}
use Rattle.verilog_parse.proofs.text.module.put_source.Given as goal

abbrev pub invariant-loop-module : goal.invariant-loop-module
invariant-loop-module l = Rows l.initial.out.items l.out.items (map printed_module l.module-items) (map printed_module (drop l.module-index l.module-items))

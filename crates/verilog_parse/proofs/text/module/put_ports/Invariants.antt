use Rattle.std.proofs.Common.{map, drop}
use Rattle.verilog_lex.specs.declared.marks.MarkKind.TheVariants.{Comma}
use Rattle.verilog_parse.specs.Printed.{mark}
use Rattle.verilog_parse.specs.Texts.{printed_port}
use Rattle.verilog_parse.proofs.TextSteps.{Lists}
use Rattle.verilog_parse.proofs.text.module.put_ports.Given as goal

abbrev pub invariant-loop-at : goal.invariant-loop-at
invariant-loop-at l = Lists l.initial.out.items l.out.items (mark Comma) (map printed_port l.ports) l.at (map printed_port (drop l.at l.ports))

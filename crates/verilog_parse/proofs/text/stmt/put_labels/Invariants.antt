use Rattle.std.proofs.Common.{map, drop}
use Rattle.verilog_lex.specs.declared.marks.MarkKind.TheVariants.{Comma}
use Rattle.verilog_parse.specs.Printed.{mark}
use Rattle.verilog_parse.specs.Texts.{printed_label}
use Rattle.verilog_parse.proofs.TextSteps.{Lists}
use Rattle.verilog_parse.proofs.text.stmt.put_labels.Given as goal

abbrev pub invariant-loop-at : goal.invariant-loop-at
invariant-loop-at l = Lists l.initial.out.items l.out.items (mark Comma) (map printed_label l.labels) l.at (map printed_label (drop l.at l.labels))

use Rattle.std.proofs.Common.{map, drop}
use Rattle.verilog_lex.specs.declared.marks.MarkKind.TheVariants.{Comma}
use Rattle.verilog_parse.specs.Printed.{mark}
use Rattle.verilog_parse.specs.Texts.{printed_expr}
use Rattle.verilog_parse.proofs.TextSteps.{Lists}
use Rattle.verilog_parse.proofs.text.expr.+put.Given as goal

abbrev pub invariant-put_exprs-loop-at : goal.invariant-put_exprs-loop-at
invariant-put_exprs-loop-at l = Lists l.initial.out.items l.out.items (mark Comma) (map printed_expr l.exprs) l.at (map printed_expr (drop l.at l.exprs))

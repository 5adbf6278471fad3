use Rattle.std.proofs.Common.{map, drop}
use Rattle.verilog_parse.specs.Texts.{printed_arm, printed_row}
use Rattle.verilog_parse.proofs.TextSteps.{Rows}
use Rattle.verilog_parse.proofs.text.stmt.+put.Given as goal

abbrev pub invariant-put_case_items-loop-item : goal.invariant-put_case_items-loop-item
invariant-put_case_items-loop-item l = Rows l.initial.out.items l.out.items (map printed_arm l.items) (map printed_arm (drop l.item-index l.items))

abbrev pub invariant-put_stmts-loop-stmt : goal.invariant-put_stmts-loop-stmt
invariant-put_stmts-loop-stmt l = Rows l.initial.out.items l.out.items (map printed_row l.stmts) (map printed_row (drop l.stmt-index l.stmts))

use Rattle.std.proofs.Common.{map, drop}
use Rattle.verilog_lex.specs.declared.marks.MarkKind.TheVariants.{Comma}
use Rattle.verilog_parse.specs.Printed.{mark}
use Rattle.verilog_parse.specs.Texts.{printed_target}
use Rattle.verilog_parse.proofs.TextSteps.{Lists}
use Rattle.verilog_parse.proofs.text.expr.+put_target.Given as goal

abbrev pub invariant-put_targets-loop-at : goal.invariant-put_targets-loop-at
invariant-put_targets-loop-at l = Lists l.initial.out.items l.out.items (mark Comma) (map printed_target l.targets) l.at (map printed_target (drop l.at l.targets))

use Rattle.std.proofs.Common.{◌≡◌, drop}
use Rattle.verilog_lex.specs.Lines.{has_parts}
use Rattle.verilog_lex.proofs.lines.has_parts.Given as goal

abbrev pub invariant-loop-part : goal.invariant-loop-part
invariant-loop-part l = has_parts l.parts l.line ≡ has_parts (drop l.part-index l.parts) l.rest

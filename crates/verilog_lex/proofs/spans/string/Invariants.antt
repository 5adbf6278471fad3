use Rattle.std.proofs.Common.{◌≡◌, ◌+◌, drop}
use Rattle.std.specs.Prelude.{option_map}
use Rattle.verilog_lex.specs.declared.spans.Within.TheVariants.{Outside, Quoted}
use Rattle.verilog_lex.specs.Spans.{string_end}
use Rattle.verilog_lex.proofs.spans.string.Given as goal

abbrev pub invariant-loop-i : goal.invariant-loop-i
invariant-loop-i l = (string_end Quoted l.text ≡ option_map (λ n. l.i + n) (string_end l.within (drop l.i l.text))) × (l.within ≡ Outside → ⊥)

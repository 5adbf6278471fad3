-- The parser ends its reading where the reader does.
use Rattle.std.specs.Prelude.{◌≡◌, Bool, List, length}
use Rattle.verilog_exprs.specs.declared.halt.Halt.{Halt}
use Rattle.verilog_exprs.specs.declared.halt.Halt.TheVariants.{Refused, Memory}
use Rattle.verilog_lex.specs.declared.token.Token.{Token}
use Rattle.verilog_reading.specs.Outcome.{Outcome, stop}

-- memory ran out, or the reader stops with as many tokens left, for the same cause
pub data HaltsAs {A : Type 0} (o : Outcome A) : Halt → Type 0 where
  by_memory : HaltsAs o Memory
  by_refusal : (deep : Bool) (rest : List Token) → o ≡ stop deep rest → HaltsAs o (Refused deep (length rest))

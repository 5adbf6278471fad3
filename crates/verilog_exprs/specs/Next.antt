-- What a test finds in the next token.
use Rattle.std.specs.Prelude.{◌≡◌, List, ◌∷◌, Option, Some}
use Rattle.verilog_lex.specs.declared.token.Token.{Token}
use Rattle.verilog_reading.specs.Laws.{Free}

-- the test finds this in the next token, and the rest stands behind it
pub record Takes {B : Type 0} (test : Token → Option B) (b : B) (ts rest : List Token) : Type 0 where
  pub token : Token
  pub is : ts ≡ token ∷ rest
  pub finds : test token ≡ Some b

-- the test finds nothing in the next token
pub record Lacks {B : Type 0} (test : Token → Option B) (ts : List Token) : Type 0 where
  pub free : Free test ts

-- What may stand behind an expression, a target or a statement.
use Rattle.std.specs.Prelude.{ℕ, ◌≡◌, true, List}
use Rattle.cdc_base.specs.declared.words.Keyword.TheVariants.{Else}
use Rattle.verilog_lex.specs.declared.token.Token.{Token}
use Rattle.verilog_lex.specs.declared.marks.MarkKind.TheVariants.{BracketOpen, Question}
use Rattle.verilog_reading.specs.Lexemes.{mark_in, word_in}
use Rattle.verilog_reading.specs.Operators.{joint_in}
use Rattle.verilog_reading.specs.ExprTree.{ExprTree, TargetTree}
use Rattle.verilog_reading.specs.StmtTree.{StmtTree, takes_else}
use Rattle.verilog_reading.specs.SourceTree.{ModuleTree}
use Rattle.verilog_reading.specs.Laws.{Free}

-- the next token continues no expression
pub record Stands (rest : List Token) : Type 0 where
  pub bracket : Free (mark_in BracketOpen) rest
  pub joint : (l : ℕ) → Free (joint_in l) rest
  pub question : Free (mark_in Question) rest

abbrev pub ExprEnds : ExprTree → List Token → Type 0
ExprEnds a rest = Stands rest

-- no bracket follows a target
abbrev pub TargetEnds : TargetTree → List Token → Type 0
TargetEnds a rest = Free (mark_in BracketOpen) rest

-- no `else` follows a statement that would take it
abbrev pub StmtEnds : StmtTree → List Token → Type 0
StmtEnds s rest = takes_else s ≡ true → Free (word_in Else) rest

-- nothing is asked of what stands behind a source
abbrev pub SourceEnds : List ModuleTree → List Token → Type 0
SourceEnds ms rest = Unit {0}

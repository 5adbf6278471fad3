use Rattle.verilog_reading.specs.Reader.{read_expr}
use Rattle.verilog_reading.specs.Reading.{IsExpr}
use Rattle.verilog_reading.specs.Stands.{ExprEnds}
use Rattle.verilog_reading.specs.ExprTree.{height}
use Rattle.verilog_reading.proofs.ExprSays.{says}
use Rattle.verilog_reading.proofs.ExprLocal.{local}
use Rattle.verilog_reading.proofs.ExprComplete.{c_expr}
use Rattle.verilog_reading.proofs.ExprAbove.{above}
use Rattle.verilog_reading.proofs.Unique.{one_reading}
use Rattle.verilog_reading.proofs.laws.expressions_are_read.Goals as goal

pub returns-clause-says : goal.returns-clause-says
returns-clause-says c = λ k ts. (says k).expr ts

pub returns-clause-local : goal.returns-clause-local
returns-clause-local c = λ k. (local k).expr

pub returns-clause-complete : goal.returns-clause-complete
returns-clause-complete c = λ u a p. c_expr p

pub returns-clause-deeper : goal.returns-clause-deeper
returns-clause-deeper c = λ k ts. (above k).expr ts

pub returns-clause-one : goal.returns-clause-one
returns-clause-one c = one_reading IsExpr height ExprEnds read_expr (λ u a p. c_expr p) (λ a. record { bracket = tt; joint = λ l. tt; question = tt })

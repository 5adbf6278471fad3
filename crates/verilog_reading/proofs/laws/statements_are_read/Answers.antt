use Rattle.verilog_reading.specs.StmtTree.{stmt_height}
use Rattle.verilog_reading.specs.Stands.{StmtEnds}
use Rattle.verilog_reading.specs.StmtReader.{read_stmt}
use Rattle.verilog_reading.specs.StmtReading.{IsStmt}
use Rattle.verilog_reading.proofs.StmtSays.{says_stmts}
use Rattle.verilog_reading.proofs.StmtLocal.{local_stmts}
use Rattle.verilog_reading.proofs.StmtComplete.{c_stmt}
use Rattle.verilog_reading.proofs.StmtAbove.{above_stmts}
use Rattle.verilog_reading.proofs.Unique.{one_reading}
use Rattle.verilog_reading.proofs.laws.statements_are_read.Goals as goal

pub returns-clause-says : goal.returns-clause-says
returns-clause-says c = says_stmts

pub returns-clause-local : goal.returns-clause-local
returns-clause-local c = local_stmts

pub returns-clause-complete : goal.returns-clause-complete
returns-clause-complete c = λ u a p. c_stmt p

pub returns-clause-deeper : goal.returns-clause-deeper
returns-clause-deeper c = above_stmts

pub returns-clause-one : goal.returns-clause-one
returns-clause-one c = one_reading IsStmt stmt_height StmtEnds read_stmt (λ u a p. c_stmt p) (λ a e. tt)

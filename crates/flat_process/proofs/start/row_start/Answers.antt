use Rattle.verilog_reading.specs.StmtTree.{stmt_tree_of}
use Rattle.flat_process.proofs.Started.{other-tree, other-row}
use Rattle.flat_process.proofs.start.row_start.Goals as goal

pub returns-in_ok-statement-in_default : goal.returns-in_ok-statement-in_default
returns-in_ok-statement-in_default c = λ l h is formed.
    other-row l (stmt_tree_of c.args.stmt.now) c.args.faults.now c.note.new.self c.statement.new.faults (other-tree c.args.stmt.now c.in_default.not-Set) c.in_ok-note-in_default.ensures
    (c.in_ok-statement-in_default.ensures l h is formed).1

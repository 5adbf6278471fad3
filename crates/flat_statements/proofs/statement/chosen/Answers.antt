use Rattle.flat_statements.proofs.Forms.{builds-chosen}
use Rattle.flat_statements.proofs.statement.chosen.Goals as goal

pub returns : goal.returns
returns c = builds-chosen c.args.cond c.args.yes c.args.other c.in_ok-boxed_stmt.field-0 c.in_ok-boxed_stmt-2.field-0 c.in_ok-boxed_stmt.ensures c.in_ok-boxed_stmt-2.ensures

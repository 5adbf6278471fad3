use Rattle.flat_statements.proofs.Forms.{builds-alone}
use Rattle.flat_statements.proofs.statement.chosen_alone.Goals as goal

pub returns : goal.returns
returns c = builds-alone c.args.cond c.args.yes c.in_ok-boxed_stmt.field-0 c.in_ok-boxed_stmt.ensures

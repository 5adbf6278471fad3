use Rattle.std.proofs.Common.{sym, arith}
use Rattle.cell_graph.proofs.Shifts.{pushed_out}
use Rattle.cell_graph.proofs.word.shifted_left.Goals as goal

pub returns-else-by-lt64 : goal.returns-else-by-lt64
returns-else-by-lt64 c = sym (pushed_out c.args.word c.args.by 64 (omega arith))

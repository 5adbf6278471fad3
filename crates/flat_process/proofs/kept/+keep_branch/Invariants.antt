use Rattle.std.proofs.Common.{map, drop}
use Rattle.flat_meaning.specs.Flat.{Stmt}
use Rattle.flat_form.specs.View.{stmt_of, stmts_of}
use Rattle.flat_unfolding.specs.Names.{Look, width_at}
use Rattle.flat_unfolding.specs.Processes.{rows_kept}
use Rattle.flat_names.specs.Looks.{Shows}
use Rattle.flat_process.specs.Kept.{AreAssigned, Grow}
use Rattle.flat_process.proofs.kept.+keep_branch.Given as goal

abbrev pub invariant-keep_rows-loop-stmt : goal.invariant-keep_rows-loop-stmt
invariant-keep_rows-loop-stmt l = (k : Look) (body : Stmt) → Shows l.look k → AreAssigned body l.assigned
    → Grow (rows_kept (width_at k.entries) body (stmts_of (map stmt_of (drop l.stmt-index l.stmts)))) (rows_kept (width_at k.entries) body (stmts_of (map stmt_of l.stmts))) l.initial.rows.items l.rows.items

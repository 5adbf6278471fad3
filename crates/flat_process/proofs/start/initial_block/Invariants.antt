use Rattle.std.proofs.Common.{◌≡◌, List, map, drop}
use Rattle.cdc_base.specs.declared.signal.ResetPin.{ResetPin}
use Rattle.verilog_reading.specs.StmtTree.{stmt_tree_of, stmt_trees_of}
use Rattle.flat_unfolding.specs.Design.{Stage, look_of}
use Rattle.flat_unfolding.specs.Starts.{Starts, initial_rows}
use Rattle.flat_unfolding.specs.Formed.{AreRowsFormed}
use Rattle.flat_names.specs.Noting.{Noted, all_noted}
use Rattle.flat_names.specs.Looks.{IsFit}
use Rattle.flat_names.specs.Designs.{ShowsNames}
use Rattle.flat_process.specs.Starts.{AreStarts}
use Rattle.flat_process.proofs.Started.{IsPartly}
use Rattle.flat_process.proofs.start.initial_block.Given as goal

abbrev pub invariant-loop-stmt : goal.invariant-loop-stmt
invariant-loop-stmt l = (pins : List ResetPin) (s : Stage) (a : Starts) (f : Noted) → ShowsNames l.names s.names → AreStarts pins l.initial.design s.design a → IsFit (look_of s)
    → AreRowsFormed (stmt_trees_of (map stmt_tree_of l.stmts)) → l.initial.faults ≡ all_noted f a.broken
    → IsPartly pins l.design s.design (look_of s) (initial_rows (look_of s) a (stmt_trees_of (map stmt_tree_of l.stmts))) (stmt_trees_of (map stmt_tree_of (drop l.stmt-index l.stmts))) f l.faults

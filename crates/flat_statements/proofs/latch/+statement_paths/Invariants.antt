use Rattle.std.proofs.Common.{map, take}
use Rattle.flat_meaning.specs.Design.{width_in}
use Rattle.flat_meaning.specs.Assigned.{surely_all}
use Rattle.flat_form.specs.View.{stmt_of, stmts_of}
use Rattle.flat_unfolding.specs.Reads.{early_all}
use Rattle.flat_statements.specs.Statements.{items_in, AreFull, AreItemsFull}
use Rattle.flat_statements.specs.Latches.{IsPaths, AreBranches}
use Rattle.flat_statements.proofs.latch.+statement_paths.Given as goal

abbrev pub invariant-block_paths-loop-stmt : goal.invariant-block_paths-loop-stmt
invariant-block_paths-loop-stmt l = let wid = width_in l.signals in let done = stmts_of (map stmt_of (take l.stmt-index l.stmts)) in
    AreFull (stmts_of (map stmt_of l.stmts)) → IsPaths (surely_all wid done) (early_all wid done) l.all

abbrev pub invariant-item_paths-loop-item : goal.invariant-item_paths-loop-item
invariant-item_paths-loop-item l = AreItemsFull (items_in l.items) → AreBranches (width_in l.signals) (items_in (take l.item-index l.items)) l.all

use Rattle.std.proofs.Common.{◌≡◌, IfOk, map, sym, ap, subst, ◌∙◌}
use Rattle.verilog_ast.specs.declared.Stmt.TheOpen.{Stmt-F}
use Rattle.verilog_ast.specs.declared.Stmt.TheFolds.{fold-roll-Stmt}
use Rattle.verilog_ast.specs.declared.Stmt.TheVariants.{rolls-Block}
use Rattle.verilog_reading.specs.StmtTree.{StmtTree, ArmTree, block, stmt_tree_step, arm_tree_step, stmt_tree_of, stmt_trees_of}
use Rattle.flat_unfolding.specs.Design.{look_of}
use Rattle.flat_unfolding.specs.Starts.{Starts, initial_starts}
use Rattle.flat_unfolding.specs.Formed.{IsStmtFormed}
use Rattle.flat_names.specs.Noting.{all_noted}
use Rattle.flat_process.specs.Starts.{AreStarts}
use Rattle.flat_process.proofs.Started.{single-tree, single-starts}
use Rattle.flat_process.proofs.start.initial_statements.Goals as goal

pub returns-in-Block : goal.returns-in-Block
returns-in-Block c = λ pins s a f names h is formed noted.
    let i = c.in-Block in
    let tree : stmt_tree_of c.args.body.now ≡ block (stmt_trees_of (map stmt_tree_of c.as_slice.result.now)) =
    ap stmt_tree_of (i.is ∙ sym (rolls-Block i.stmts)) ∙ fold-roll-Stmt StmtTree ArmTree stmt_tree_step arm_tree_step (Stmt-F.Block i.stmts) ∙ ap (λ xs. block (stmt_trees_of (map stmt_tree_of xs))) (sym c.as_slice.ensures) in
    subst (λ t. IfOk c.initial_block.result (λ _. AreStarts pins c.initial_block.new.design s.design (initial_starts (look_of s) a t) × (c.initial_block.new.faults ≡ all_noted f (initial_starts (look_of s) a t).broken))) (sym tree)
    (c.initial_block.ensures pins s a f names h is (subst IsStmtFormed tree formed) noted)

pub returns-in_default : goal.returns-in_default
returns-in_default c = λ pins s a f names h is formed noted.
    let t = stmt_tree_of c.args.body.now in
    subst (λ (b : Starts). IfOk c.initial_statement.result (λ _. AreStarts pins c.initial_statement.new.design s.design b × (c.initial_statement.new.faults ≡ all_noted f b.broken)))
    (single-starts (look_of s) a t (single-tree c.args.body.now c.in_default.not-Block)) (c.initial_statement.ensures pins s a f names h is formed noted)

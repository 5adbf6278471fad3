use Rattle.std.proofs.Common.{sym, ap, ◌∙◌}
use Rattle.flat_unfolding.specs.Resets.{peeled}
use Rattle.flat_process.proofs.StmtTrees.{tree-block, peeled-several}
use Rattle.flat_process.proofs.reset.+peeled.Goals as goal

pub returns-in_default-as_slice-2 : goal.returns-in_default-as_slice-2
returns-in_default-as_slice-2 t c =
    let xs = c.as_slice.result.now in
    let tree = tree-block c.args.stmt.now c.in-Block.stmts xs c.in-Block.is c.as_slice.ensures in
    tree ∙ sym (peeled-several xs c.in_default-as_slice.len_at_least) ∙ ap peeled (sym tree)

use Rattle.std.proofs.Common.{refl, ap, ◌∙◌}
use Rattle.verilog_reading.specs.StmtTree.{stmt_tree_of}
use Rattle.flat_unfolding.specs.Mentions.{read_names}
use Rattle.flat_unfolding.specs.Resets.{reads_other}
use Rattle.flat_process.proofs.Processes.{no-form, has-form}
use Rattle.flat_process.proofs.always.form_with.Goals as goal

pub returns-in_default : goal.returns-in_default
returns-in_default c = λ l h fit first all. no-form l (stmt_tree_of c.args.branch.now) (stmt_tree_of c.args.all.now) c.args.tested c.in_default.is

pub returns : goal.returns
returns c = λ l h fit first all.
    let others = c.in_ok-reads_other.ensures l h ∙ ap (λ ss. reads_other l ss (read_names (stmt_tree_of c.args.all.now))) c.as_slice.ensures.value in
    has-form l (stmt_tree_of c.args.branch.now) (stmt_tree_of c.args.all.now) c.args.tested c.in-Some.tested _ c.in_ok-whole.whole c.in-Some.is refl others
    (c.in_ok-branch.ensures l h fit first) (c.in_ok-given.ensures l h fit first) (c.in_ok-whole.ensures l h fit all) c.left-rest.ensures.same c.left-rest.ensures.sizes

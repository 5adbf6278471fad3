use Rattle.std.proofs.Common.{sym, ap, subst, ◌∙◌}
use Rattle.verilog_reading.specs.ExprTree.{target_tree_of}
use Rattle.flat_unfolding.specs.Formed.{IsTargetFormed}
use Rattle.flat_process.specs.Starts.{is_memory_of}
use Rattle.flat_targets.proofs.Aimed.{meaning-at}
use Rattle.flat_process.proofs.Started.{tree-at, names-word}
use Rattle.flat_process.proofs.start.names_register.Goals as goal

pub returns-in_ok-index-in-At : goal.returns-in_ok-index-in-At
returns-in_ok-index-in-At c = λ l h is formed.
    let i = c.in-At in
    let m = ap is_memory_of (meaning-at c.args.look.now l h i.name c.meaning-in-At.result c.meaning-in-At.ensures) ∙ sym c.is_memory-in-At.ensures ∙ c.if-not-is_memory.false in
    let inner = subst IsTargetFormed (ap target_tree_of i.is ∙ tree-at i.name i.index) formed in
    names-word l c.args.target.now i.name i.index c.in_ok-index-in-At.index.is_constant i.is m (c.in_ok-index-in-At.ensures l h is inner).0.constant

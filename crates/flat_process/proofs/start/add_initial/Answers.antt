use Rattle.verilog_reading.specs.StmtTree.{stmt_tree_of}
use Rattle.flat_unfolding.specs.Design.{look_of}
use Rattle.flat_unfolding.specs.Starts.{so_far, initial_starts}
use Rattle.flat_process.specs.Assigns.{fresh}
use Rattle.flat_process.proofs.Started.{at-first, starts-end}
use Rattle.flat_process.proofs.start.add_initial.Goals as goal

pub returns-clause-meets : goal.returns-clause-meets
returns-clause-meets c = λ pins s h is formed.
    let t = stmt_tree_of c.args.body.now in
    let kept = c.in_ok-initial_statements.ensures pins s (so_far s) fresh h.names (at-first pins c.args.design.now s h.design) is formed c.new-faults.ensures in
    starts-end pins c.args.names.now c.initial_statements.new.design s c.args.place (initial_starts (look_of s) (so_far s) t) c.initial_statements.new.faults c.raise.result h.names kept.0 kept.1 c.raise.ensures.exact

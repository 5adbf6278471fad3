use Rattle.verilog_reading.specs.ExprTree.{tree_of}
use Rattle.flat_unfolding.specs.Expressions.{read}
use Rattle.flat_process.proofs.Wires.{made-assign}
use Rattle.flat_process.proofs.assign.assigned.Goals as goal

pub returns : goal.returns
returns c = λ l a h fit is formed.
    let v = c.in_ok-value.ensures l h fit formed in
    (made-assign a c.args.target (read l (tree_of c.args.value.now)) c.in_ok-value.value is v.0, v.1)

use Rattle.verilog_reading.specs.ExprTree.{tree_of}
use Rattle.flat_unfolding.specs.Targets.{of_wires}
use Rattle.flat_targets.proofs.PieceRules.{with-pieces}
use Rattle.flat_targets.proofs.Reading.{reads-formed}
use Rattle.flat_targets.proofs.target.wire_expr_target.Goals as goal

pub returns : goal.returns
returns c = λ l v h is formed reads.
    let a = c.in_ok-fixed.ensures l v h is formed reads in
    with-pieces l of_wires v c.in_ok-fixed.fixed c.args.faults.now c.expr_target.new.faults c.note_expr_pieces.new.faults a
    (c.in_ok-note_expr_pieces.ensures l v h is (reads-formed (tree_of c.args.expr.now) v formed reads) reads a.0.target)

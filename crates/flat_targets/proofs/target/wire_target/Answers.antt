use Rattle.verilog_reading.specs.ExprTree.{target_tree_of}
use Rattle.flat_unfolding.specs.Targets.{of_wires}
use Rattle.flat_targets.proofs.PieceRules.{with-pieces}
use Rattle.flat_targets.proofs.target.wire_target.Goals as goal

pub returns : goal.returns
returns c = λ l h is formed.
    let a = c.in_ok-fixed.ensures l h is formed in
    with-pieces l of_wires (target_tree_of c.args.target.now) c.in_ok-fixed.fixed c.args.faults.now c.fixed_target.new.faults c.note_pieces.new.faults a (c.in_ok-note_pieces.ensures l of_wires h is formed a.0.target)

use Rattle.verilog_reading.specs.ExprTree.{tree_of, target_tree_of}
use Rattle.flat_unfolding.specs.Expressions.{read}
use Rattle.flat_unfolding.specs.Targets.{of_wires, with_piece_rules}
use Rattle.flat_targets.proofs.Aimed.{ok-then}
use Rattle.flat_process.proofs.Wires.{wire-gives}
use Rattle.flat_process.proofs.assign.wire_assign.Goals as goal

pub returns : goal.returns
returns c = λ l h fit target value.
    let t = target_tree_of c.args.target.now in
    let v = read l (tree_of c.args.value.now) in
    let is = c.in_ok-target.ensures l h fit target in
    ok-then c.assigned.result _ _
    (λ x p. wire-gives l t v c.in_ok-target.target x c.args.faults.now c.wire_target.new.faults c.note_variable_index.new.faults c.assigned.new.faults is.0 is.1 (c.in_ok-note_variable_index.ensures l h) p.0 p.1)
    (c.assigned.ensures l (with_piece_rules l of_wires t) h fit is.0 value)

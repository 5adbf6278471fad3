use Rattle.verilog_reading.specs.ExprTree.{tree_of}
use Rattle.flat_unfolding.specs.Expressions.{read}
use Rattle.flat_targets.specs.Aims.{use_of}
use Rattle.flat_targets.proofs.Aimed.{ok-then}
use Rattle.flat_targets.proofs.AimedWords.{part-gives}
use Rattle.flat_names.proofs.Fit.{fit}
use Rattle.flat_targets.proofs.target.part_target.Goals as goal

pub returns : goal.returns
returns c = λ l h is left right.
    let u = use_of c.args.assigned in
    let v = read l (tree_of c.args.left.now) in
    let w = read l (tree_of c.args.right.now) in
    let p = c.in_ok-left.ensures l h is left in
    let q = c.in_ok-right.ensures l h is right in
    let b = c.in_ok-numbers.ensures v w p.0 q.0 in
    ok-then c.part_aim.result _ _
    (λ r k. part-gives l u c.args.name.now c.args.kind v w (fit l is (tree_of c.args.right.now) right).one c.args.faults.now c.note_kind.new.faults c.resolve_constant.new.faults c.resolve_constant-2.new.faults c.part_numbers.new.faults c.part_aim.new.faults
    _ (c.in_ok-note_kind.ensures l h) p.1 q.1 b.0 b.1 r k)
    (c.part_aim.ensures l u h is)

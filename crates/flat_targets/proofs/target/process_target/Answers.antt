use Rattle.std.proofs.Common.{◌≡◌, false, inl, inr, sym, ap, ◌∙◌}
use Rattle.verilog_ast.specs.declared.Target.{Target}
use Rattle.verilog_ast.specs.declared.Target.TheOpen.{Target-F}
use Rattle.verilog_ast.specs.declared.Target.TheFolds.{fold-roll-Target}
use Rattle.verilog_ast.specs.declared.Target.TheVariants as v
use Rattle.verilog_reading.specs.ExprTree.{TargetTree, target_tree_of, target_tree_step}
use Rattle.flat_unfolding.specs.Targets.{of_registers}
use Rattle.flat_targets.proofs.AimedWords.{join-tree}
use Rattle.flat_targets.proofs.PieceRules.{is_index, with-pieces, process-goal}
use Rattle.flat_targets.proofs.target.process_target.Goals as goal

pub returns-in_ok-note_pieces-in-Whole : goal.returns-in_ok-note_pieces-in-Whole
returns-in_ok-note_pieces-in-Whole c = λ l h is formed.
    let x = c.args.target.now in
    let tree = target_tree_of x in
    let other : is_index tree ≡ false = elim c.in-Whole.is [
      | inl w ↦ ap (λ z. is_index (target_tree_of z)) (w.1 ∙ sym (v.rolls-Whole w.0)) ∙ ap is_index (fold-roll-Target TargetTree target_tree_step (Target-F.Whole w.0))
      | inr (inl w) ↦ ap (λ z. is_index (target_tree_of z)) (w.4 ∙ sym (v.rolls-Part w.0 w.1 w.2 w.3)) ∙ ap is_index (fold-roll-Target TargetTree target_tree_step (Target-F.Part w.0 w.1 w.2 w.3))
      | inr (inr w) ↦ ap (λ z. is_index (target_tree_of z)) w.1 ∙ ap is_index (join-tree w.0)
    ] in
    let a = c.in_ok-fixed-in-Whole.ensures l h is formed in
    process-goal l tree other c.in_ok-fixed-in-Whole.fixed c.args.faults.now c.note_pieces.new.faults
    (with-pieces l of_registers tree c.in_ok-fixed-in-Whole.fixed c.args.faults.now c.fixed_target.new.faults c.note_pieces.new.faults a (c.in_ok-note_pieces-in-Whole.ensures l of_registers h is formed a.0.target))

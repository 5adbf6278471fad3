use Rattle.std.proofs.Common.{None, ap, ◌∙◌}
use Rattle.verilog_reading.specs.ExprTree.{tree_of}
use Rattle.flat_unfolding.specs.Expressions.{read}
use Rattle.flat_unfolding.specs.Targets.{index_goal}
use Rattle.flat_names.specs.Noting.{noted}
use Rattle.flat_targets.specs.Aims.{use_of}
use Rattle.flat_targets.proofs.AimedWords.{fixed-word}
use Rattle.flat_targets.proofs.target.index_target.Goals as goal

pub returns : goal.returns
returns c = λ l h is formed.
    let x = c.args.name.now in
    let u = use_of c.args.assigned in
    fixed-word l u x (index_goal l u x (read l (tree_of c.args.index.now))) _ c.in-Word.memory c.in-Word.index c.in-Word.is c.args.faults.now c.index_goal.new.faults c.note.new.self
    (c.in_ok-fixed.ensures l h is formed) c.nowhere.result c.nowhere.ensures
    (c.in_ok-note-in-Word.ensures ∙ ap (λ y. noted c.index_goal.new.faults (record { number = 319; name = y; place = None })) c.as_str.ensures)

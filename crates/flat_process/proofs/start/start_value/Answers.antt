use Rattle.std.proofs.Common.{not, ap, ◌∙◌}
use Rattle.verilog_reading.specs.ExprTree.{tree_of}
use Rattle.flat_unfolding.specs.Outcome.{breaks_if}
use Rattle.flat_unfolding.specs.Expressions.{read}
use Rattle.flat_names.specs.Noting.{all_noted}
use Rattle.flat_names.proofs.Notes.{then-noted}
use Rattle.flat_process.proofs.Started.{start-value}
use Rattle.flat_process.proofs.start.start_value.Goals as goal

pub returns : goal.returns
returns c = λ l h is formed inside.
    let t = read l (tree_of c.args.value.now) in
    let i = c.in_ok-value.ensures l h is formed in
    let f = c.args.faults.now in (
      start-value c.args.look.now l h c.args.sig c.width.result c.assigned_value-value.result t c.in_ok-value.value is inside i.0 c.width.ensures (λ a b. (c.assigned_value-value.ensures a b).0),
      then-noted f c.resolve.new.faults c.note_variable.new.faults t.broken (breaks_if (not t.is_constant) 313 c.args.name.now) i.1
          (c.in_ok-note_variable.ensures ∙ ap (λ b. all_noted c.resolve.new.faults (breaks_if (not b) 313 c.args.name.now)) i.0.constant),
    )

use Rattle.std.proofs.Common.{◌≡◌, true, false, not, ◌&&◌, ◌==◌, sym, ap, ◌∙◌}
use Rattle.verilog_reading.specs.ExprTree.{tree_of}
use Rattle.flat_form.specs.Sizes.{kept_of}
use Rattle.flat_unfolding.specs.Outcome.{breaks}
use Rattle.flat_unfolding.specs.Expressions.{read}
use Rattle.flat_unfolding.specs.Wires.{input_rules}
use Rattle.flat_names.specs.Noting.{all_noted}
use Rattle.flat_process.proofs.Wires.{wide-is, narrow-is, input-noted}
use Rattle.flat_process.proofs.assign.one_bit.Goals as goal
use Rattle.flat_process.proofs.assign.one_bit.Goals.{then-input+then-width-ne1+in_ok-note, else-input, else-input-via-then-input+else-width-ne1, else-input-via-else-input}

pub returns : goal.returns
returns c = λ l h fit formed.
    let kind = c.args.kind in
    let v = read l (tree_of c.args.input.now) in
    let r = c.in_ok-input.input in
    let is = c.in_ok-input.ensures l h fit formed in
    let f = c.args.faults.now in
    let g = c.resolve.new.faults in
    let told : c.if-input.faults ≡ all_noted f (input_rules kind v) = elim c.if-input.branch [
      | then-input+then-width-ne1+in_ok-note w ↦ input-noted kind v r f g c.if-input.faults true is.0 is.1 (wide-is r.is_sound (kept_of r.expr).width w.if-input.true (λ e. w.if-width-ne1.true (w.width.ensures ∙ e)))
          (w.faults-is ∙ w.in_ok-note.ensures ∙ ap (λ x. all_noted g (breaks 306 x)) w.gate_word.ensures)
      | else-input w ↦ input-noted kind v r f g c.if-input.faults false is.0 is.1 (elim w.else-input.branch [
        | else-input-via-then-input+else-width-ne1 w' ↦ narrow-is r.is_sound (kept_of r.expr).width (sym w'.width.ensures ∙ w'.if-width-ne1.false)
        | else-input-via-else-input w' ↦ ap (λ b. b && not ((kept_of r.expr).width == 1)) w'.if-input.false
      ]) w.faults-is
    ] in
    (is.0, told)

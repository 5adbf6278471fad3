use Rattle.std.proofs.Common.{◌≡◌, ◌||◌, not, subst₂}
use Rattle.verilog_reading.specs.ExprTree.{tree_of, target_tree_of}
use Rattle.flat_unfolding.specs.Outcome.{breaks_if}
use Rattle.flat_unfolding.specs.Expressions.{read}
use Rattle.flat_unfolding.specs.Targets.{of_registers, aim, first_name}
use Rattle.flat_unfolding.specs.Starts.{names_register}
use Rattle.flat_names.specs.Noting.{all_noted}
use Rattle.flat_names.proofs.Options.{ok-map}
use Rattle.flat_process.specs.Starts.{IsOne, one_at, value_broken}
use Rattle.flat_process.proofs.Started.{row-later}
use Rattle.flat_process.proofs.start.initial_start.Goals as goal

pub returns : goal.returns
returns c = λ l h is aimed formed.
    let t = target_tree_of c.args.target.now in
    let v = read l (tree_of c.args.value.now) in
    let a = aim l of_registers t in
    let bs = breaks_if (not c.args.is_blocking || not (names_register l t)) 313 (first_name t) in
    let i = c.in_ok-fixed.ensures l h is aimed in
    ok-map c.start_at.result
    (λ o k.
    let m = subst₂ (λ x g. IsOne (one_at l v g) (value_broken l x v g) o × (c.start_at.new.faults ≡ all_noted c.note_register.new.faults (value_broken l x v g))) (c.first_text.ensures aimed) i.0.target k in
    row-later (one_at l v a.target) o a.broken bs (value_broken l (first_name t) v a.target) c.args.faults.now c.fixed_target.new.faults c.note_register.new.faults c.start_at.new.faults i.1
    (c.in_ok-note_register.ensures l h is aimed) m.0 m.1)
    (c.start_at.ensures l h is formed)

use Rattle.std.proofs.Common.{ap, ◌∙◌}
use Rattle.verilog_reading.specs.ExprTree.{tree_of}
use Rattle.flat_unfolding.specs.Constants.{own_value}
use Rattle.flat_unfolding.specs.Expressions.{is_sound}
use Rattle.flat_names.specs.Noting.{all_noted}
use Rattle.flat_names.specs.declared.fault.Order.TheVariants as k
use Rattle.flat_names.proofs.Looked.{own-is}
use Rattle.flat_process.proofs.Levels.{noted-sound, sound-of, shows-level, fit-level, read_at, value-at}
use Rattle.flat_process.proofs.reset.is_true_at.Goals as goal

pub returns : goal.returns
returns c = λ l shows fit formed.
    let active = c.args.active in
    let e = tree_of c.args.cond.now in
    let t = read_at l active e in
    let r = c.in_ok-cond.cond in
    let h = c.in_ok-cond.ensures (record l { active = active }) (shows-level c.args.look.now l active shows) (fit-level l active fit) formed in
    let sound = sound-of (is_sound t) (c.if-is_some.ensures ∙ noted-sound t k.Other c.resolve.new.faults c.rule.result (h.1 ∙ ap (λ f. all_noted f t.broken) c.new-faults.ensures) c.rule.ensures) in
    let kept = h.0.sound ∙ sound in
    value-at l active e c.own_value.result sound (own-is r.expr c.own_value.result (h.0.sized kept) (c.own_value.ensures (h.0.sized kept)).0 ∙ ap own_value (h.0.expr kept))

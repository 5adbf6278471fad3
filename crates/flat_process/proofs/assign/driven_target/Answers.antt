use Rattle.std.proofs.Common.{refl, sym, ap, ◌∙◌}
use Rattle.verilog_reading.specs.ExprTree.{tree_of}
use Rattle.flat_unfolding.specs.Targets.{as_target}
use Rattle.flat_targets.specs.declared.target.Fixed.{Fixed}
use Rattle.flat_process.proofs.Wires.{driven-target, driven-none, some-of, none-of}
use Rattle.flat_process.proofs.assign.driven_target.Goals as goal

pub returns-then-is_target : goal.returns-then-is_target
returns-then-is_target c = λ l h fit formed.
    let e = tree_of c.args.expr.now in
    let t = some-of (as_target e) (sym c.is_target.ensures ∙ c.if-is_target.true) in
    let is = c.in_ok-fixed.ensures l t.0 h fit formed t.1 in
    driven-target l e t.0 c.in_ok-fixed.fixed c.args.faults.now c.wire_expr_target.new.faults c.note_variable_index.new.faults t.1 is.0 is.1 (c.in_ok-note_variable_index.ensures l h)

pub returns : goal.returns
returns c = λ l h fit formed.
    let e = tree_of c.args.expr.now in
    let none = none-of (as_target e) (sym c.is_target.ensures ∙ c.if-is_target.false) in
    let r = c.in_ok-read.read in
    let is = c.in_ok-read.ensures l h fit formed in
    driven-none l e r (record { target = c.nowhere.result.target; width = c.from.result; is_sound = r.is_sound }) c.args.faults.now c.resolve.new.faults c.note.new.self none is.0 is.1 c.in_ok-note.ensures
    (ap (λ (w : Fixed). w.target) c.nowhere.ensures) (c.from.ensures ∙ c.width.ensures) refl

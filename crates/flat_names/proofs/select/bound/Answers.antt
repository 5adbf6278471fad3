use Rattle.std.proofs.Common.{Some, ap, ◌∙◌, arith}
use Rattle.flat_names.proofs.Selected.{constant-value, bound-large, bound-right}
use Rattle.flat_names.proofs.select.bound.Goals as goal

pub returns-then-value-gt-MAX_WHOLE : goal.returns-then-value-gt-MAX_WHOLE
returns-then-value-gt-MAX_WHOLE c = λ t h.
    let r = c.args.constant.now in let s = c.if-not-constant.false in let g = c.if-value-gt-MAX_WHOLE.true in
    let v = constant-value t r c.own_value-value.result h s (c.own_value-value.ensures (h.sized s)).0 in
    let b = bound-large t r c.args.faults.now h s (omega arith) in
    (b.0, c.in_ok-note.ensures ∙ b.1)

pub returns : goal.returns
returns c = λ t h.
    let r = c.args.constant.now in let s = c.if-not-constant.false in let g = c.if-value-gt-MAX_WHOLE.false in
    let v = constant-value t r c.own_value-value.result h s (c.own_value-value.ensures (h.sized s)).0 in
    let b = bound-right t r c.args.faults.now h s (omega arith) in
    (c.narrowed.ensures (omega arith) ∙ ap Some v ∙ b.0, b.1)

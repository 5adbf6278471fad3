use Rattle.std.proofs.Common.{◌≤◌, sym, subst}
use Rattle.flat_declarations.proofs.Held.{held-some}
use Rattle.flat_declarations.proofs.parameter.held.Goals as goal

pub returns-in-Some : goal.returns-in-Some
returns-in-Some c = λ h l.
    let w = c.declared_width-width.ensures l in
    held-some c.args.value.now c.in-Some.field-0 c.args.bounds c.assigned_value.result c.declared_width-width.result c.args.is_counted c.args.is_signed c.in-Some.is h l w
    (c.assigned_value.ensures h (subst (λ n. n ≤ 64) (sym w) l))

use Rattle.std.proofs.Common.{sym, ap₂, subst, ◌∙◌}
use Rattle.flat_design.specs.Visiting.{IsPlace, placed}
use Rattle.flat_design.proofs.Places.{place-side}
use Rattle.flat_design.proofs.instance.directed.Goals as goal

pub returns-in_err-is_input : goal.returns-in_err-is_input
returns-in_err-is_input c = λ m x h p.
    let port = c.in_ok-port in
    let found = c.in_ok-direction in
    let side = place-side c.args.ports.now m h port.port x found.field-0-0.now found.direction.now (subst (λ o. IsPlace c.args.ports.now o x) port.was p) found.ensures.entry found.ensures.value in
    c.from_residual-in_err-is_input.ensures ∙ sym (ap₂ placed port.was (side ∙ c.in_err-is_input.was))

pub returns : goal.returns
returns c = λ m x h p.
    let port = c.in_ok-port in
    let found = c.in_ok-direction in
    let side = place-side c.args.ports.now m h port.port x found.field-0-0.now found.direction.now (subst (λ o. IsPlace c.args.ports.now o x) port.was p) found.ensures.entry found.ensures.value in
    sym (ap₂ placed port.was (side ∙ c.in_ok-is_input.was))

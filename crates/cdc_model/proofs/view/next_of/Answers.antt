-- The search ends at the register of the signal, or there is none.
use Rattle.std.proofs.Common.{rules, arith, sym}
use Rattle.std.proofs.lemmas.Grind.{common_steps}
use Rattle.std.proofs.lemmas.List.Sorted.{answers_always}
use Rattle.cdc_model.proofs.Registers.{found, absent}
use Rattle.cdc_model.proofs.view.next_of.Goals as goal

pub returns-in-Some : goal.returns-in-Some
returns-in-Some c = λ h.
    let by_key = c.in-Ok.ensures.position (λ r. r.sig) (answers_always _ _ _ (λ f a r g called. search rules)) in
    let is = found c.args.regs.now h c.args.sig c.in-Ok.place c.in-Ok.ensures.bound by_key in
    let seen = c.in-Some.ensures.lookup in
    grind (arith, common_steps, is, seen)

pub returns-in-Err : goal.returns-in-Err
returns-in-Err c = λ h.
    let by_key = c.in-Err.ensures.position (λ r. r.sig) (answers_always _ _ _ (λ f a r g called. search rules)) in
    sym (absent c.args.regs.now h c.args.sig c.in-Err.field-0 by_key)

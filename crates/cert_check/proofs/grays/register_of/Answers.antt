-- The search ends at the register with the signal, or there is none.
use Rattle.std.proofs.Common.{rules}
use Rattle.std.proofs.lemmas.List.Elements.{Contains-get_or}
use Rattle.std.proofs.lemmas.List.Sorted.{answers_always}
use Rattle.cdc_model.proofs.Justify.{in_slice}
use Rattle.gray_pointer.proofs.Places.{place_absent}
use Rattle.cert_check.proofs.GrayItems.{found_sig}
use Rattle.cert_check.proofs.grays.register_of.Goals as goal

pub returns-in-Ok : goal.returns-in-Ok
returns-in-Ok c =
    let by_key = c.in-Ok.ensures.position (λ r. r.sig) (answers_always _ _ _ (λ f a r g called. search rules)) in
    (Contains-get_or c.args.registers.now c.in-Ok.place _ c.in-Ok.ensures.bound, found_sig c.args.registers.now c.args.sig c.in-Ok.place by_key _)

pub returns-in-Err : goal.returns-in-Err
returns-in-Err c = λ up r i same.
    let by_key = c.in-Err.ensures.position (λ r. r.sig) (answers_always _ _ _ (λ f a r g called. search rules)) in
    place_absent c.args.registers.now up c.args.sig i.0 r (in_slice c.args.registers.now r i) same c.in-Err.field-0 by_key

-- The search ends at the register of the signal, or there is none.
use Rattle.std.proofs.Common.{ap, Some, rules}
use Rattle.std.proofs.lemmas.List.Sorted.{answers_always}
use Rattle.gray_pointer.proofs.Places.{place_found, place_absent}
use Rattle.gray_pointer.proofs.candidates.place_of.Goals as goal

pub returns-in-Ok : goal.returns-in-Ok
returns-in-Ok c = λ up place r at same.
    let by_key = c.in-Ok.ensures.position (λ r. r.sig) (answers_always _ _ _ (λ f a r g called. search rules)) in
    ap Some (place_found c.args.registers.now up c.args.sig place r at same c.in-Ok.place c.in-Ok.ensures.bound by_key)

pub returns-in-Err : goal.returns-in-Err
returns-in-Err c = λ up place r at same.
    let by_key = c.in-Err.ensures.position (λ r. r.sig) (answers_always _ _ _ (λ f a r g called. search rules)) in
    absurd (place_absent c.args.registers.now up c.args.sig place r at same c.in-Err.field-0 by_key)

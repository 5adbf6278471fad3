-- The bits at the ring's three places.
use Rattle.std.proofs.Common.{◌∙◌, ◌-◌, refl, sym, ap, slice_get, length}
use Rattle.mux_recirc.proofs.Asked.{item_at}
use Rattle.cert_check.proofs.ListedLoads.{ends_are}
use Rattle.cert_check.proofs.loads.ends_of.Goals as goal

pub returns-in-Some-Some-Some : goal.returns-in-Some-Some-Some
returns-in-Some-Some-Some c = λ r is.
    let e = c.args.ring.now in
    ends_are e r is c.in-Some-Some-Some.request.now c.in-Some-Some-Some.acknowledge.now c.in-Some-Some-Some.last.now
    (sym (c.in-Some-Some-Some.ensures.value ∙ ap (λ xs. slice_get xs 0) c.as_slice-bits.ensures))
    (item_at e.bits c.as_slice-bits.result.now c.as_slice-bits.ensures e.ack e.ack refl c.in-Some-Some-Some.acknowledge.now
    c.in-Some-Some-Some.ensures'.lookup.3.0 c.in-Some-Some-Some.ensures'.lookup.1)
    (sym (c.in-Some-Some-Some.ensures''.value ∙ ap (λ xs. slice_get xs (length xs - 1)) c.as_slice-bits.ensures))

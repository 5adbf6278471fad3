-- By the place, and the bits there and behind it.
use Rattle.std.proofs.Common.{◌≡◌, ◌+◌, refl, arith}
use Rattle.mux_recirc.proofs.Asked.{item_at}
use Rattle.cert_check.proofs.ListedLoads.{gate_is, none_early, none_late}
use Rattle.cert_check.proofs.loads.gate_of.Goals as goal

pub returns-then-place-lt2 : goal.returns-then-place-lt2
returns-then-place-lt2 c = none_early c.args.ring.now c.args.place c.if-place-lt2.true

pub returns-then-place-ring : goal.returns-then-place-ring
returns-then-place-ring c = none_late c.args.ring.now c.args.place c.if-place-ring.true

pub returns : goal.returns
returns c =
    let bits = c.args.ring.now.bits in
    let slice = c.as_slice-bits.result.now in
    gate_is c.args.ring.now c.args.place c.in-Some.one.now c.in-Some-get.next.now c.if-place-lt2.false c.if-place-ring.false
    (item_at bits slice c.as_slice-bits.ensures c.args.place c.args.place refl c.in-Some.one.now c.in-Some.ensures.lookup.3.0 c.in-Some.ensures.lookup.1)
    (item_at bits slice c.as_slice-bits.ensures (c.args.place + 1) c.saturating_add.result
    (let s = c.saturating_add.ensures in let f = c.ranges.place.fits in let e : c.saturating_add.result ≡ c.args.place + 1 = omega arith in e)
    c.in-Some-get.next.now c.in-Some-get.ensures.lookup.3.0 c.in-Some-get.ensures.lookup.1)

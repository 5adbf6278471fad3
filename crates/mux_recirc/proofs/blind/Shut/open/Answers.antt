-- The gate's two bits, and the table under each cube.
use Rattle.std.proofs.Common.{◌≡◌, ◌+◌, refl, arith}
use Rattle.mux_recirc.proofs.Asked.{item_at}
use Rattle.mux_recirc.proofs.blind.Shut.open.Goals as goal

pub returns : goal.returns
returns c = λ is has. (
  c.in-Some-Some.one.now,
  c.in-Some-Some.another.now,
  item_at c.args.ring.now.bits c.as_slice-bits.result.now c.as_slice-bits.ensures c.args.gate c.args.gate refl c.in-Some-Some.one.now c.in-Some-Some.ensures.lookup.3.0 c.in-Some-Some.ensures.lookup.1,
  item_at c.args.ring.now.bits c.as_slice-bits.result.now c.as_slice-bits.ensures (c.args.gate + 1) c.saturating_add.result
      (let s = c.saturating_add.ensures in let f = c.ranges.gate.fits in let e : c.saturating_add.result ≡ c.args.gate + 1 = omega arith in e)
      c.in-Some-Some.another.now c.in-Some-Some.ensures'.lookup.3.0 c.in-Some-Some.ensures'.lookup.1,
  c.in_ok-equal.ensures is has,
  c.in_ok-equal-2.ensures is has,
)

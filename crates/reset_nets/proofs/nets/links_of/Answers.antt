use Rattle.std.proofs.Common.{◌≡◌, length, arith}
use Rattle.reset_nets.proofs.Shown.{next_links, all_links, signals_count}
use Rattle.reset_nets.proofs.nets.links_of.Goals as goal

pub loop-place-preserved : goal.loop-place-preserved
loop-place-preserved c = λ pins d h.
    next_links pins d c.args.wires.now h c.loop-place.place c.in_ok-sig.sig c.loop-place.links c.add_row.new.links c.in_ok-sig.ensures (c.loop-place.invariant pins d h) c.in_ok-add_row.ensures

pub returns : goal.returns
returns c = λ pins d h.
    let past = c.loop-place-test.false in let within = c.loop-place.auto.place-end in let n = signals_count pins c.args.wires.now d h in
    all_links pins d c.loop-place.place c.loop-place.links (let e : c.loop-place.place ≡ length d.entries = omega (arith, past, within, n) in e) (c.loop-place.invariant pins d h)

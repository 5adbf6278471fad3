use Rattle.std.proofs.Common.{arith, get_or}
use Rattle.cdc_base.specs.declared.bit.Bit.{Bit}
use Rattle.fifo_scheme.proofs.IndexPlaces.{adds_all, adds_more, adds_one}
use Rattle.fifo_scheme.proofs.index.add_at_each.Goals as goal

abbrev nothing : Bit
nothing = record { sig = 0; at = 0 }

pub loop-key-preserved : goal.loop-key-preserved
loop-key-preserved c =
    let keys = c.args.keys.now in
    adds_more keys c.loop-key.key-index nothing c.args.place c.args.places.now c.loop-key.places c.add_place.new.places
    (omega arith) c.loop-key.invariant
    (adds_one c.args.place c.loop-key.places c.add_place.new.places
    (get_or keys c.loop-key.key-index nothing) c.in_ok-add_place.ensures.added c.in_ok-add_place.ensures.kept)

pub returns : goal.returns
returns c = adds_all c.args.keys.now c.loop-key.key-index c.args.place c.args.places.now c.loop-key.places (omega arith) c.loop-key.invariant

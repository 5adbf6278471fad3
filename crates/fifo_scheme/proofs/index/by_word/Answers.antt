use Rattle.std.proofs.Common.{arith, List, Contains, subst, sym}
use Rattle.cdc_base.specs.declared.bit.Bit.{Bit}
use Rattle.fifo_scheme.specs.declared.index.Reading.{Reading}
use Rattle.fifo_scheme.specs.Indexed.{AddsAt}
use Rattle.fifo_scheme.proofs.IndexLooks.{at_index}
use Rattle.fifo_scheme.proofs.IndexPlaces.{places_end, places_more}
use Rattle.fifo_scheme.proofs.index.by_word.Goals as goal

pub loop-place-preserved : goal.loop-place-preserved
loop-place-preserved c =
    let r = c.index-readings-place.result in
    let k = c.loop-place.place in
    places_more (λ b (r : Reading). Contains r.reads b) c.args.readings.now k r c.loop-place.places c.add_at_each.new.places
    (at_index c.args.readings.now k r (omega arith) c.index-readings-place.is) c.loop-place.invariant
    (subst (λ (y : Reading). AddsAt (Contains y.reads) k c.loop-place.places c.add_at_each.new.places) (sym c.index-readings-place.is)
    (subst (λ (bs : List Bit). AddsAt (Contains bs) k c.loop-place.places c.add_at_each.new.places) c.as_slice-words.ensures
    c.in_ok-add_at_each.ensures))

pub returns : goal.returns
returns c = places_end (λ b (r : Reading). Contains r.reads b) c.args.readings.now c.loop-place.place c.loop-place.places
    (omega arith) c.loop-place.invariant

use Rattle.std.proofs.Common.{◌≡◌, arith, subst, sym}
use Rattle.cdc_base.specs.declared.bit.Bit.{Bit}
use Rattle.fifo_parts.specs.declared.side.Side.{Side}
use Rattle.fifo_parts.specs.Brought.{places_at}
use Rattle.fifo_parts.specs.Words.{lowest}
use Rattle.fifo_scheme.specs.Indexed.{AddsAt}
use Rattle.fifo_scheme.proofs.IndexLooks.{at_index, lowest_one}
use Rattle.fifo_scheme.proofs.IndexPlaces.{adds_one, places_end, places_iff, places_more}
use Rattle.fifo_scheme.proofs.index.by_count.Goals as goal

pub loop-place-preserved : goal.loop-place-preserved
loop-place-preserved c =
    let x = c.index-sides-place.result in
    let k = c.loop-place.place in
    let old = c.loop-place.places in
    let new = c.add_place.new.places in
    places_more (λ b (x : Side). b ≡ lowest x.reg.count) c.args.sides.now k x old new
    (at_index c.args.sides.now k x (omega arith) c.index-sides-place.is) c.loop-place.invariant
    (subst (λ (y : Side). AddsAt (λ b. b ≡ lowest y.reg.count) k old new) (sym c.index-sides-place.is)
    (subst (λ (key : Bit). AddsAt (λ b. b ≡ key) k old new) c.lowest-key.ensures
    (adds_one k old new c.lowest-key.result c.in_ok-add_place.ensures.added c.in_ok-add_place.ensures.kept)))

pub returns : goal.returns
returns c = λ count. places_iff (λ (x : Side). lowest count ≡ lowest x.reg.count) (λ (x : Side). x.reg.count ≡ count) c.args.sides.now
    (places_at c.loop-place.places (lowest count)) (λ x. lowest_one count x.reg.count)
    (places_end (λ b (x : Side). b ≡ lowest x.reg.count) c.args.sides.now c.loop-place.place c.loop-place.places
    (omega arith) c.loop-place.invariant (lowest count))

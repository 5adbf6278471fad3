use Rattle.std.proofs.Common.{◌≡◌, arith, subst, sym}
use Rattle.cdc_base.specs.declared.bit.Bit.{Bit}
use Rattle.fifo_parts.specs.declared.reads.Read.{Read}
use Rattle.fifo_parts.specs.Brought.{places_at}
use Rattle.fifo_parts.specs.Words.{lowest}
use Rattle.fifo_scheme.specs.Indexed.{AddsAt}
use Rattle.fifo_scheme.proofs.IndexLooks.{at_index, lowest_one}
use Rattle.fifo_scheme.proofs.IndexPlaces.{adds_one, places_end, places_iff, places_more}
use Rattle.fifo_scheme.proofs.index.by_read_count.Goals as goal

pub loop-place-preserved : goal.loop-place-preserved
loop-place-preserved c =
    let x = c.index-reads-place.result in
    let k = c.loop-place.place in
    let old = c.loop-place.places in
    let new = c.add_place.new.places in
    places_more (λ b (x : Read). b ≡ lowest x.count) c.args.reads.now k x old new
    (at_index c.args.reads.now k x (omega arith) c.index-reads-place.is) c.loop-place.invariant
    (subst (λ (y : Read). AddsAt (λ b. b ≡ lowest y.count) k old new) (sym c.index-reads-place.is)
    (subst (λ (key : Bit). AddsAt (λ b. b ≡ key) k old new) c.lowest-key.ensures
    (adds_one k old new c.lowest-key.result c.in_ok-add_place.ensures.added c.in_ok-add_place.ensures.kept)))

pub returns : goal.returns
returns c = λ count. places_iff (λ (x : Read). lowest count ≡ lowest x.count) (λ (x : Read). x.count ≡ count) c.args.reads.now
    (places_at c.loop-place.places (lowest count)) (λ x. lowest_one count x.count)
    (places_end (λ b (x : Read). b ≡ lowest x.count) c.args.reads.now c.loop-place.place c.loop-place.places (omega arith) c.loop-place.invariant
    (lowest count))

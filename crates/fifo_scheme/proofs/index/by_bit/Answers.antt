use Rattle.std.proofs.Common.{rules, arith, ◌≡◌, cond, Some}
use Rattle.std.specs.HashMap as hash
use Rattle.cdc_base.specs.contracts.bit.BitPartialEq.TheImpl as equality
use Rattle.fifo_scheme.proofs.IndexLooks.{at_index}
use Rattle.fifo_scheme.proofs.IndexPlaces.{place_end, place_more}
use Rattle.fifo_scheme.proofs.index.by_bit.Goals as goal

pub loop-place-preserved : goal.loop-place-preserved
loop-place-preserved c = λ b.
    let t = c.index-takings-place.result in
    let k = c.loop-place.place in
    let old = hash.get equality.ghosts.eq c.loop-place.places b in
    let new = hash.get equality.ghosts.eq c.insert.new.self b in
    let step : new ≡ cond (equality.ghosts.eq t.bit b) (Some k) old = search rules in
    place_more c.args.takings.now k t b old new (at_index c.args.takings.now k t (omega arith) c.index-takings-place.is)
    (c.loop-place.invariant b) step

pub returns : goal.returns
returns c = λ b. place_end c.args.takings.now c.loop-place.place b (hash.get equality.ghosts.eq c.loop-place.places b) (omega arith)
    (c.loop-place.invariant b)

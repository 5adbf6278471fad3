-- One place more.
use Rattle.std.proofs.Common.{◌≡◌, ◌++◌, [], ◌∷◌, subst}
use Rattle.cell_graph.proofs.Bits.{bit_eq-true}
use Rattle.fifo_parts.specs.Brought.{places_at}
use Rattle.fifo_parts.proofs.Only.{places_more}
use Rattle.fifo_parts.proofs.brought.Sources.of.Goals as goal

pub loop-place-preserved : goal.loop-place-preserved
loop-place-preserved c = λ meant e b.
    let i = c.loop-place.place in
    let x = c.index-syncs-place.result in
    let old = c.loop-place.places in
    let new = c.add_place.new.places in
    places_more meant c.args.syncs.now i x b (places_at old b) (places_at new b) e c.loop-place-test.true c.index-syncs-place.is
    (c.loop-place.invariant meant e b)
    (λ t. subst (λ k. places_at new k ≡ places_at old k ++ i ∷ []) (bit_eq-true x.from b t) c.in_ok-add_place.ensures.added)
    (λ f. c.in_ok-add_place.ensures.kept b f)

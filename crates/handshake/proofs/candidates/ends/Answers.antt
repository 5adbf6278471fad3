-- The place of one synchronizer more, and in the end of all.
use Rattle.std.proofs.Common.{◌∙◌, sym, ap}
use Rattle.std.specs.Result.{is_ok}
use Rattle.handshake.proofs.Pairs.{place_more, places_of, few_entries, entry_within, when_ok}
use Rattle.handshake.proofs.candidates.ends.Goals as goal

pub loop-place-preserved : goal.loop-place-preserved
loop-place-preserved c = λ ss are b.
    let s = entry_within c.args.syncs.now ss are c.loop-place.place c.index-syncs-place.result c.loop-place-test.true c.index-syncs-place.is in
    place_more ss c.loop-place.place s.0 c.last_flop-last.result b _ _ s.1 (c.last_flop-last.ensures s.0 s.2)
    ((when_ok c.insert.result (sym c.map_err.ensures.variant ∙ ap is_ok c.in_ok-map_err.was) c.insert.ensures.updates).0 b) (c.loop-place.invariant ss are b)

pub returns : goal.returns
returns c = λ ss are b. places_of ss c.loop-place.place b _ (few_entries c.args.syncs.now ss are c.loop-place.place c.loop-place-test.false) (c.loop-place.invariant ss are b)

-- The copies of one arrival more.
use Rattle.std.proofs.Common.{◌<◌, ◌∙◌, ap, length, rules, sym, Some}
use Rattle.std.proofs.lemmas.Option.{slice_get-get_or}
use Rattle.obligations.specs.Arrivals.{copies_of}
use Rattle.obligations.proofs.Walk.{walk_more}
use Rattle.obligations.proofs.arrivals.follow.Goals as goal

pub loop-place-preserved : goal.loop-place-preserved
loop-place-preserved c = λ up.
    let within : c.loop-place.place < length c.loop-place.arrivals.items = search rules in
    walk_more (copies_of c.args.copyings.now) _ _ _ _ _ (slice_get-get_or c.loop-place.arrivals.items c.loop-place.place c.index.result.now within ∙ ap Some (sym c.index.ensures)) (c.in_ok-add_copies.ensures up) (c.loop-place.invariant up)

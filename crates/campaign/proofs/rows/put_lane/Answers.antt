use Rattle.std.proofs.Common.{◌≡◌, ◌∙◌, ◌+◌, length, take, ap, arith, refl}
use Rattle.campaign.specs.Lanes.{lane}
use Rattle.campaign.proofs.LaneRows.{all-words, length-lane, one-word}
use Rattle.campaign.proofs.rows.put_lane.Goals as goal

pub loop-place-preserved : goal.loop-place-preserved
loop-place-preserved c = record {
  long = c.put_one.ensures.length ∙ c.loop-place.invariant.long;
  kept = λ i ne. c.put_one.ensures.kept i ne ∙ c.loop-place.invariant.kept i ne;
  put = λ small same.
      let lanes = length-lane c.args.index c.loop-place.rows in
      let counted : length (lane c.args.index c.loop-place.rows) ≡ length c.args.words.now = lanes ∙ c.loop-place.invariant.long ∙ same in
      ap (take (c.loop-place.place + 1)) (c.put_one.ensures.put small)
      ∙ one-word (lane c.args.index c.loop-place.rows) c.args.words.now c.loop-place.place _ (omega arith) counted refl (c.loop-place.invariant.put small same);
}

pub returns-clause-put : goal.returns-clause-put
returns-clause-put c = λ small same.
    let lanes = length-lane c.args.index c.loop-place.rows in
    let counted : length (lane c.args.index c.loop-place.rows) ≡ length c.args.words.now = lanes ∙ c.loop-place.invariant.long ∙ same in
    all-words (lane c.args.index c.loop-place.rows) c.args.words.now c.loop-place.place (omega arith) counted (c.loop-place.invariant.put small same)

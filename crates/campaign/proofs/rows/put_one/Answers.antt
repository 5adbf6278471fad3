-- A word that is replaced is one that is put into one lane, and no word of the others.
use Rattle.std.proofs.Common.{◌≡◌, ◌<◌, [], length, get_or, arith, get_or-set_other, get_or-set_same}
use Rattle.campaign.specs.Lanes.{lane}
use Rattle.campaign.proofs.LaneRows.{lane-kept, lane-put}
use Rattle.campaign.proofs.rows.put_one.Goals as goal

pub returns-then-index-lt8-clause-kept : goal.returns-then-index-lt8-clause-kept
returns-then-index-lt8-clause-kept c = λ i ne. lane-kept i c.args.rows.now c.args.place _ (get_or-set_other (get_or c.args.rows.now c.args.place []) c.args.index i c.args.word 0 ne)

pub returns-then-index-lt8-clause-put : goal.returns-then-index-lt8-clause-put
returns-then-index-lt8-clause-put c = λ l.
    let row = get_or c.args.rows.now c.args.place [] in
    let long : length row ≡ 8 = c.told-rows c.args.place c.if-place-rows.true in
    lane-put c.args.index c.args.rows.now c.args.place _ c.args.word (get_or-set_same row c.args.index c.args.word 0 (omega (arith, l, long)))

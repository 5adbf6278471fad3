use Rattle.std.proofs.Common.{◌∙◌, ◌/◌, ◌^◌, ap}
use Rattle.cell_graph.proofs.Cones.{on_ok}
use Rattle.cofactor.proofs.Arms.{parts-asked, low-only, high-only}
use Rattle.cofactor.proofs.SamePush.{both_ok}
use Rattle.cofactor.proofs.WantedLists.{in-turn, asked-kept, keep-trans}
use Rattle.cofactor.proofs.walk.Walk.want_parts.Goals as goal

pub returns-clause-asked : goal.returns-clause-asked
returns-clause-asked c =
    let t = c.args.table.now in
    let mid = c.want.new.self.wanted in
    let new = c.want-2.new.self.wanted in
    both_ok c.want-2.result (λ f keep cube.
    parts-asked c.args.graph.now cube t c.args.bits mid new c.args.high c.args.low c.width-width.result c.mask.result c.shifted_right.result c.width-width.ensures c.mask.ensures
    (c.shifted_right.ensures ∙ ap (λ n. c.args.bits / 2 ^ n) c.from.ensures) c.ranges.bits.fits (asked-kept t mid new keep) c.in_ok-want.ensures.asked f) c.want-2.ensures.asked c.want-2.ensures.kept

pub returns-clause-only : goal.returns-clause-only
returns-clause-only c = on_ok c.want-2.result (λ f cube w h.
    in-turn (low-only c.args.graph.now cube c.args.table.now c.args.bits c.args.high c.args.low c.width-width.result c.mask.result w c.width-width.ensures c.mask.ensures)
    (high-only c.args.graph.now cube c.args.table.now c.args.bits c.args.high c.args.low c.width-width.result c.shifted_right.result w c.width-width.ensures
    (c.shifted_right.ensures ∙ ap (λ n. c.args.bits / 2 ^ n) c.from.ensures)) (c.in_ok-want.ensures.only w) (f w h)) c.want-2.ensures.only

pub returns-clause-kept : goal.returns-clause-kept
returns-clause-kept c = on_ok c.want-2.result (keep-trans c.args.self.now.wanted c.want.new.self.wanted c.want-2.new.self.wanted c.in_ok-want.ensures.kept) c.want-2.ensures.kept

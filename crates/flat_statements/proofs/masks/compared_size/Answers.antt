use Rattle.std.proofs.Common.{◌+◌, drop, sym, ap, ◌∙◌}
use Rattle.flat_statements.specs.Masks.{labels_width, items_width}
use Rattle.flat_statements.proofs.Lefts.{left-is}
use Rattle.flat_statements.proofs.masks.compared_size.Goals as goal

pub loop-item-preserved : goal.loop-item-preserved
loop-item-preserved c =
    let now = c.loop-item.size in
    ap (λ n. items_width n (drop (c.loop-item.item-index + 1) c.args.items.now)) (c.largest-size.ensures ∙ ap (labels_width now) c.as_slice.ensures.value)
    ∙ sym (ap (items_width now) (left-is c.args.items.now c.loop-item.item-index c.item-item.result c.loop-item-test.true c.item-item.is)) ∙ c.loop-item.invariant

use Rattle.std.proofs.Common.{◌+◌, max, drop, sym, ap, ◌∙◌}
use Rattle.flat_statements.specs.Masks.{labels_width}
use Rattle.flat_statements.proofs.Lefts.{left-is}
use Rattle.flat_statements.proofs.masks.largest.Goals as goal

pub loop-label-preserved : goal.loop-label-preserved
loop-label-preserved c =
    let now = c.loop-label.largest in
    ap (λ n. labels_width n (drop (c.loop-label.label-index + 1) c.args.labels.now)) (c.max-largest.ensures ∙ ap (max now) c.width_of.ensures.kept)
    ∙ sym (ap (labels_width now) (left-is c.args.labels.now c.loop-label.label-index c.label-item.result c.loop-label-test.true c.label-item.is)) ∙ c.loop-label.invariant

use Rattle.std.specs.Prelude.{◌≡◌, drop}
use Rattle.flat_statements.specs.Masks.{labels_width}
use Rattle.flat_statements.proofs.masks.largest.Given as goal

abbrev pub invariant-loop-label : goal.invariant-loop-label
invariant-loop-label l = labels_width l.largest (drop l.label-index l.labels) ≡ labels_width l.size l.labels

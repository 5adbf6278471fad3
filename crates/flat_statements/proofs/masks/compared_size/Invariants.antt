use Rattle.std.specs.Prelude.{◌≡◌, drop}
use Rattle.flat_form.specs.Sizes.{kept_of}
use Rattle.flat_statements.specs.Masks.{items_width}
use Rattle.flat_statements.proofs.masks.compared_size.Given as goal

abbrev pub invariant-loop-item : goal.invariant-loop-item
invariant-loop-item l = items_width l.size (drop l.item-index l.items) ≡ items_width (kept_of l.subject).width l.items

use Rattle.std.proofs.Common.{◌≡◌, max, true, drop}
use Rattle.flat_meaning.specs.Flat.{size}
use Rattle.flat_form.specs.View.{expr_of}
use Rattle.flat_form.specs.Sizes.{is_sized, are_labels_sized}
use Rattle.flat_form.proofs.Labels.{largest_in}
use Rattle.flat_form.proofs.cases.case_size.Given as goal

abbrev pub invariant-loop-item : goal.invariant-loop-item
invariant-loop-item l = is_sized l.subject ≡ true → are_labels_sized l.items ≡ true
    → (are_labels_sized (drop l.item-index l.items) ≡ true) × (max (size (expr_of l.subject)) (largest_in l.items) ≡ max l.size (largest_in (drop l.item-index l.items)))

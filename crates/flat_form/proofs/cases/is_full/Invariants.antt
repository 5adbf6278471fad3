use Rattle.std.proofs.Common.{◌≡◌, ◌≤◌, true, drop}
use Rattle.flat_form.specs.Sizes.{are_labels_sized}
use Rattle.flat_form.proofs.Labels.{largest_in, AddsItems}
use Rattle.flat_form.proofs.cases.is_full.Given as goal

abbrev pub invariant-loop-item : goal.invariant-loop-item
invariant-loop-item l = are_labels_sized l.items ≡ true → largest_in l.items ≤ l.size → l.size ≤ 64 → AddsItems l.size l.values.items (drop l.item-index l.items) l.items

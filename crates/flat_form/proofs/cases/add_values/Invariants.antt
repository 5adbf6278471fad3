use Rattle.std.proofs.Common.{◌≡◌, ◌≤◌, true, drop}
use Rattle.std.specs.List.{list_all}
use Rattle.flat_meaning.specs.Flat.{largest}
use Rattle.flat_form.specs.Sizes.{is_sized}
use Rattle.flat_form.proofs.Constants.{these}
use Rattle.flat_form.proofs.Labels.{AddsLabels}
use Rattle.flat_form.proofs.cases.add_values.Given as goal

abbrev pub invariant-loop-label : goal.invariant-loop-label
invariant-loop-label l = list_all is_sized l.labels ≡ true → largest (these l.labels) ≤ l.size → l.size ≤ 64 → AddsLabels l.size l.initial.values.items l.values.items (drop l.label-index l.labels) l.labels

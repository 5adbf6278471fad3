use Rattle.std.proofs.Common.{◌≡◌, ◌≤◌, true, map, drop}
use Rattle.flat_form.specs.View.{binary_of}
use Rattle.flat_form.specs.Sizes.{sum, kept_of, all_right, all_bits}
use Rattle.flat_form.proofs.Constants.{Joins, Folded}
use Rattle.flat_form.proofs.value.+value.Given as goal

abbrev pub invariant-joined_value-loop-part : goal.invariant-joined_value-loop-part
invariant-joined_value-loop-part l = all_right (map kept_of l.parts) ≡ true → sum (map kept_of l.parts) ≤ 64 → Joins l.word (drop l.part-index l.parts) l.parts

abbrev pub invariant-gate_value-loop-input : goal.invariant-gate_value-loop-input
invariant-gate_value-loop-input l = all_right (map kept_of l.inputs) ≡ true → all_bits (map kept_of l.inputs) ≡ true → 1 ≤ l.size → l.size ≤ 64
    → Folded (binary_of l.op) l.size l.word (drop l.input-index l.others) l.inputs

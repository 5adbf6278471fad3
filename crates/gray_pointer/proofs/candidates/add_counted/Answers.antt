-- The leaf is a sum of the signal and a step, or the signal itself.
use Rattle.std.proofs.Common.{◌∙◌, sym, subst, inl, inr, refl, arith, ◌<◌, ◌≤◌}
use Rattle.cofactor.proofs.Places.{if_ok}
use Rattle.cdc_model.proofs.ReadBits.{two_if}
use Rattle.gray_pointer.specs.Leaves.{IsLeaf}
use Rattle.gray_pointer.proofs.Leaves.{one_node, another_node, operand_bit, leaf_var}
use Rattle.gray_pointer.proofs.candidates.add_counted.Goals as goal

pub returns-in_ok-add_passed-in-Add-clause-there : goal.returns-in_ok-add_passed-in-Add-clause-there
returns-in_ok-add_passed-in-Add-clause-there c = two_if c.add_passed-in-Add.result
    (λ u there kept plain sig w node e is lt counts.
    let g = c.args.net.now.graph in
    let leaf = c.in-Some.leaf in
    let h = subst (IsLeaf g sig w node.at) c.in-Some.is (c.first_leaf.ensures plain sig w node e is lt counts) in
    let same = h.1 in
    let l : 1 ≤ w = omega arith in
    let n : leaf.at < w = omega arith in
    let m = sym c.cell.ensures ∙ c.in-Add.is in
    let one = one_node g plain sig w l leaf h.0 n h.2 c.in-Add.a c.in-Add.b m in
    let another = another_node g plain sig w l leaf h.0 n h.2 c.in-Add.a c.in-Add.b m in
    elim (operand_bit g plain sig w l leaf h.0 n h.2 c.in-Add.a c.in-Add.b m) [
      | inl o ↦ kept sig (c.in_ok-add_passed-in-Add.ensures.there plain one.0 one.1 sig w o)
      | inr o ↦ there plain another.0 another.1 sig w o
    ])
    c.add_passed-in-Add.ensures.there c.add_passed-in-Add.ensures.kept

pub returns-in_default-cell : goal.returns-in_default-cell
returns-in_default-cell c = record {
  kept = c.add_signal.ensures.kept;
  there = if_ok c.add_signal.result
      (λ u h plain sig w node e is lt counts.
      let g = c.args.net.now.graph in
      let leaf = c.in-Some.leaf in
      let k = subst (IsLeaf g sig w node.at) c.in-Some.is (c.first_leaf.ensures plain sig w node e is lt counts) in
      let same = k.1 in
      let l : 1 ≤ w = omega arith in
      let n : leaf.at < w = omega arith in
      h leaf sig refl (leaf_var g plain sig w l leaf k.0 n k.2 k.3 (λ a b m. c.in_default-cell.not-Add a b (c.cell.ensures ∙ m))))
      c.add_signal.ensures.there;
}

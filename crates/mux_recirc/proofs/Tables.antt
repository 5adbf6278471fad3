-- What a table for the next values of some bits shows of one of them.
use Rattle.std.proofs.Common.{◌≡◌, ◌∙◌, ◌↔◌, sym, ap, subst, arith, ◌<◌, true, false, Some, None, List, [], ◌∷◌, Contains}
use Rattle.cdc_base.specs.declared.bit.Bit.{Bit}
use Rattle.cell_graph.specs.declared.cell.CellId.{CellId}
use Rattle.cell_graph.specs.declared.cell.Node.{Node}
use Rattle.cell_graph.specs.declared.net.Net.{Net}
use Rattle.cell_graph.specs.Below.{IsBelow, root}
use Rattle.cell_graph.specs.Cofactor.{same, reads}
use Rattle.cell_graph.specs.Reading.{Cube, bit_eq}
use Rattle.cell_graph.specs.Unfolded.{tree_of, IsNodeOf}
use Rattle.cofactor.specs.Shown.{Shown, Shows, same_at}
use Rattle.cofactor.proofs.SameRows.{same-shown}
use Rattle.cdc_model.specs.Design.{at_bit}
use Rattle.cdc_model.specs.Nets.{next_node_of, next_tree, tree_or_zero, bit_count, HasNextCells}
use Rattle.cdc_model.specs.Tables.{ShowsNext}
use Rattle.cdc_model.proofs.Ascending.{here, nothing_in}
use Rattle.cdc_model.proofs.ReadBits.{cell-of, no-cell, place-of, node-is}
use Rattle.mux_recirc.specs.Shown.{keeps}

module _ (net : Net) (has : HasNextCells net) (cube : Cube) (t : Shown) (bits : List Bit) (shown : ShowsNext net cube t bits) (x : Bit) (i : Contains bits x)
    (l : x.at < bit_count net.graph.signals x.sig) (n : Node) (e : next_node_of net x ≡ Some n) where
  -- the state bit that the table shows of a next value
  pub same-next : same_at t n.cell n.at ≡ same cube (next_tree net x.sig) x.at
  same-next =
      let c = cell-of net x n e in
      let node = node-is net has x l n.cell c in
      ap (same_at t n.cell) (place-of net x n e) ∙ same-shown net.graph cube t n.cell (shown x n.cell n.cell i c (root (here n.cell []))).sames x.at node.1
      ∙ sym (ap (λ o. same cube (tree_or_zero net.graph o) x.at) c)

  -- a bit that the table shows is compared with the bit itself
  pub keeps_same : (a : Bit) → same_at t n.cell n.at ≡ Some a → bit_eq a x ≡ keeps net cube x
  keeps_same a h = sym (ap (λ o. at_bit o (λ b. bit_eq b x)) (sym same-next ∙ h))

  pub keeps_none : same_at t n.cell n.at ≡ None → false ≡ keeps net cube x
  keeps_none h = sym (ap (λ o. at_bit o (λ b. bit_eq b x)) (sym same-next ∙ h))

  -- what the table answers for the next value's node is what the bit reads
  pub reads-next : (read : List Bit) → (IsNodeOf net.graph n → ((id : CellId) → IsBelow net.graph (n.cell ∷ []) id → Shows net.graph cube t id)
      → (b : Bit) → Contains read b ↔ (reads cube (tree_of net.graph n.cell) n.at b ≡ true))
      → (b : Bit) → Contains read b ↔ (reads cube (next_tree net x.sig) x.at b ≡ true)
  reads-next read h b =
      let c = cell-of net x n e in
      let at : n.at ≡ x.at = place-of net x n e in
      let node = node-is net has x l n.cell c in
      let tree : reads cube (tree_of net.graph n.cell) n.at b ≡ reads cube (next_tree net x.sig) x.at b =
      ap (λ m. reads cube (tree_of net.graph n.cell) m b) at ∙ sym (ap (λ o. reads cube (tree_or_zero net.graph o) x.at b) c) in
      let k = h (node.0, omega (arith, node.1, at)) (λ id below. shown x n.cell id i c below) b in (
        λ j. sym tree ∙ k.0 j,
        λ r. k.1 (tree ∙ r),
      )

-- a bit without a next value doesn't keep its value, and reads nothing
pub keeps_absent : (net : Net) (cube : Cube) (x : Bit) → next_node_of net x ≡ None → false ≡ keeps net cube x
keeps_absent net cube x e = sym (ap (λ o. at_bit (same cube (tree_or_zero net.graph o) x.at) (λ b. bit_eq b x)) (no-cell net x e))

pub reads_none : (net : Net) (cube : Cube) (x : Bit) → next_node_of net x ≡ None → (read : List Bit) → read ≡ [] → (b : Bit) → Contains read b ↔ (reads cube (next_tree net x.sig) x.at b ≡ true)
reads_none net cube x e read empty b =
    let none : reads cube (next_tree net x.sig) x.at b ≡ false = ap (λ o. reads cube (tree_or_zero net.graph o) x.at b) (no-cell net x e) in (
      λ j. absurd (nothing_in b (subst (λ bs. Contains bs b) empty j)),
      λ r. never (sym none ∙ r),
    )
  where
    never : {A : Type 0} → false ≡ true → A
    never h = cc

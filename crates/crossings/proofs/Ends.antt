-- The path of a crossing begins at its end's next value, and each crossing has one.
use Rattle.std.proofs.Common.{◌≡◌, ◌∙◌, sym, ap, arith, ℕ, ◌<◌, true, false, ltb-true, List, [], Some, None, is_some}
use Rattle.std.specs.List.{Contains}
use Rattle.std.proofs.lemmas.Bool.{and_parts, both_ways}
use Rattle.cdc_base.specs.declared.bit.Bit.{Bit}
use Rattle.cell_graph.specs.declared.cell.CellId.{CellId}
use Rattle.cell_graph.specs.declared.cell.Node.{Node}
use Rattle.cell_graph.specs.declared.net.Net.{Net}
use Rattle.cell_graph.specs.Below.{IsClosed}
use Rattle.cell_graph.specs.Cofactor.{reads}
use Rattle.cell_graph.specs.Unfolded.{tree_of, IsNodeOf}
use Rattle.domains.specs.declared.Domains.{Domains}
use Rattle.domains.specs.Nets.{IsNet}
use Rattle.cdc_model.specs.declared.scheme.Crossing.{Crossing}
use Rattle.cdc_model.specs.Found.{crossings_of}
use Rattle.cdc_model.specs.Listed.{IsNodePath, IsPathOf, BeginsWith}
use Rattle.cdc_model.specs.Nets.{next_cell, next_node_of, next_tree, tree_or_zero, bit_count, is_within, HasNextCells}
use Rattle.cdc_model.proofs.Found.{crossings_are_all, net_ascends}
use Rattle.cdc_model.proofs.ReadBits.{cell-of, place-of, no-cell, node-is}
use Rattle.crossings.specs.Readings.{AreReadings, IsOnPath}

module _ (net : Net) (has : HasNextCells net) (x b : Bit) (l : x.at < bit_count net.graph.signals x.sig) (r : reads [] (next_tree net x.sig) x.at b ≡ true) where
  -- a bit that reads another one has a next value
  pub has-next : next_node_of net x ≡ None → ⊥
  has-next e = both_ways (reads [] (next_tree net x.sig) x.at b) (ap (λ o. reads [] (tree_or_zero net.graph o) x.at b) (no-cell net x e)) r

  module _ (n : Node) (next : next_node_of net x ≡ Some n) where
    pub start-within : IsNodeOf net.graph n
    start-within = let p = node-is net has x l n.cell (cell-of net x n next) in (p.0, omega (arith, p.1, place-of net x n next))

    pub start-on : (words : List ℕ) (cells : List CellId) → IsClosed net.graph cells → AreReadings net.graph b words cells → Contains cells n.cell → IsOnPath net.graph b words cells n
    start-on words cells closed shown there = record {
      closed = closed;
      shown = shown;
      there = there;
      node = start-within;
      reads = ap (λ i. reads [] (tree_of net.graph n.cell) i b) (place-of net x n next) ∙ sym (ap (λ o. reads [] (tree_or_zero net.graph o) x.at b) (cell-of net x n next)) ∙ r;
    }

    pub path-is : (path : List Node) → BeginsWith n path → IsNodePath net.graph b path → IsPathOf net b x path
    path-is path begins walk = record { start = (n, cell-of net x n next, place-of net x n next, begins); walk = walk }

-- the end of a crossing is a bit of a register that reads the source
pub crossing-reads : (net : Net) (domains : Domains) → IsNet net → (c : Crossing) → Contains (crossings_of net domains) c
    → (c.to.at < bit_count net.graph.signals c.to.sig) × (reads [] (next_tree net c.to.sig) c.to.at c.from ≡ true)
crossing-reads net domains is c h =
    let k = (crossings_are_all net domains (λ g. false) (net_ascends net is)).only c h in
    let p = and_parts (is_some (next_cell net.regs c.to.sig)) (is_within net c.to) k.register in
    (ltb-true c.to.at (bit_count net.graph.signals c.to.sig) p.1, k.reads)

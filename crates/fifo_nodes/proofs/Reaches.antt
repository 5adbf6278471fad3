-- The origin of a bit of a graph is a bit of the graph.
use Rattle.std.proofs.Common.{◌≡◌, ◌∙◌, refl, sym, inl, inr, ◌⊎◌, arith, ℕ, zero, suc, ◌<◌, ◌≤◌, Some, None}
use Rattle.cell_graph.specs.declared.cell.Node.{Node}
use Rattle.cell_graph.specs.declared.feeds.Passed.{Passed}
use Rattle.cell_graph.specs.declared.feeds.Passed.TheVariants.{Bit, Zero, Other}
use Rattle.cell_graph.specs.Cells.{Cells, cell_at}
use Rattle.cell_graph.specs.Feeds.{passed_by}
use Rattle.cell_graph.specs.Origin.{origin}
use Rattle.cell_graph.specs.Unfolded.{IsWellFormed, IsNodeOf, bit_of, tree_of}
use Rattle.cell_graph.proofs.Leads.{goes_on, is_zero, is_own}

-- the origin is zero, or a bit of an earlier cell or of this one
abbrev pub IsReach : Cells → Node → Type 0
IsReach g n = (origin (tree_of g n.cell) n.at ≡ None)
    ⊎ ((m : Node) × IsNodeOf g m × (m.cell.0 ≤ n.cell.0) × (origin (tree_of g n.cell) n.at ≡ Some (bit_of g m)))

module _ (g : Cells) (well : IsWellFormed g) where
  below : (k : ℕ) (n : Node) → n.cell.0 < k → IsNodeOf g n → IsReach g n
  below zero n l is = absurd (omega arith)
  below (suc k) n l is = go (passed_by g (cell_at g n.cell) n.at) refl (below k)
    where
      on : (m : Node) → origin (tree_of g n.cell) n.at ≡ origin (tree_of g m.cell) m.at → m.cell.0 < n.cell.0 → IsReach g m → IsReach g n
      on m e lower (inl z) = inl (e ∙ z)
      on m e lower (inr (p, h, low, f)) = inr (p, h, omega arith, e ∙ f)

      go : (p : Passed) → passed_by g (cell_at g n.cell) n.at ≡ p → ((m : Node) → m.cell.0 < k → IsNodeOf g m → IsReach g m) → IsReach g n
      go (Bit m) e ih = let h = goes_on g well n is m (sym e) in let lower = h.1 in on m h.0 h.1 (ih m (omega arith) h.2)
      go Zero e ih = inl (is_zero g well n is (sym e))
      go Other e ih = inr (n, is, omega arith, is_own g well n is (sym e))

  pub reaches : (n : Node) → IsNodeOf g n → IsReach g n
  reaches n is = below (suc n.cell.0) n (omega arith) is

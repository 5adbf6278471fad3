-- What a register bit takes is a bit of a cell, whatever cells the net has.
use Rattle.std.proofs.Common.{◌≡◌, ◌∙◌, refl, sym, ap, subst, inl, inr, arith, ℕ, zero, suc, ◌<◌, Bool, true, false, Option, Some, None, option_map}
use Rattle.cdc_base.specs.declared.bit.Bit.{Bit}
use Rattle.cell_graph.specs.declared.cell.Cell.{Cell}
use Rattle.cell_graph.specs.declared.cell.Cell.TheVariants.{Mux}
use Rattle.cell_graph.specs.declared.cell.CellId.{CellId}
use Rattle.cell_graph.specs.declared.cell.Node.{Node}
use Rattle.cell_graph.specs.Cells.{Cells, cell_at}
use Rattle.cell_graph.specs.Feeds.{node}
use Rattle.cell_graph.specs.Origin.{TreeBit, origin}
use Rattle.cell_graph.specs.Tree.{Tree}
use Rattle.cell_graph.specs.Unfolded.{IsCellOf, IsNodeOf, IsWellFormed, bit_of, tree_of, trees, unfolded}
use Rattle.fifo_terms.specs.Takes.{Taken, always, and_under, by_own, is_own, taken}
use Rattle.fifo_terms.specs.Terms.{terms}
use Rattle.gray_pointer.specs.Words.{IsIn}
use Rattle.gray_pointer.proofs.Trees.{is_cell, tree_there}
use Rattle.fifo_nodes.specs.Nodes.{IsOwn}
use Rattle.fifo_nodes.specs.Takes.{taken_bit}
use Rattle.fifo_nodes.proofs.Choices.{mux_nodes, other_way}
use Rattle.fifo_nodes.proofs.Origins.{origin_stops, taken_origin}
use Rattle.fifo_nodes.proofs.Reaches.{IsReach, reaches}

-- the bit of a tree is that of a node of the graph, or zero
abbrev pub IsShownIn : Cells → TreeBit → Type 0
IsShownIn g b = (v : Option Node) × (b ≡ option_map (bit_of g) v) × IsIn g v

module _ (g : Cells) (well : IsWellFormed g) (x : Bit) where
  abbrev IsTakenAt : Node → Type 0
  IsTakenAt n = IsShownIn g (taken x (tree_of g n.cell) n.at).node

  abbrev AreTakenBelow : ℕ → Type 0
  AreTakenBelow k = (n : Node) → n.cell.0 < k → IsNodeOf g n → IsTakenAt n

  by-own : (p q : Bool) (first second otherwise : Taken) → IsShownIn g first.node → IsShownIn g second.node → IsShownIn g otherwise.node → IsShownIn g (by_own p q first second otherwise).node
  by-own true true first second otherwise h k l = l
  by-own true false first second otherwise h k l = h
  by-own false true first second otherwise h k l = k
  by-own false false first second otherwise h k l = l

  at-own : (m : Node) → IsOwn g m → AreTakenBelow m.cell.0 → IsTakenAt m
  at-own m own ih = go (cell_at g m.cell) refl
    where
      other : ((c a b : CellId) → cell_at g m.cell ≡ Mux c a b → ⊥) → IsTakenAt m
      other none = (Some m, ap (λ (k : Taken). k.node) (other_way g well x m own none), own.0)

      go : (c : Cell) → cell_at g m.cell ≡ c → IsTakenAt m
      go (Mux c a b) e =
          let is = subst (IsCellOf g m.cell.0) e (is_cell g well m.cell own.0.0) in
          let nodes = mux_nodes g well x m own c a b e in
          let tree : tree_of g m.cell ≡ unfolded g.signals (trees g) (Mux c a b) = tree_there g well m.cell own.0.0 ∙ ap (unfolded g.signals (trees g)) e in
          subst (λ (t : Tree). IsShownIn g (taken x t m.at).node) (sym tree)
          (by-own (is_own x (origin (tree_of g a) m.at)) (is_own x (origin (tree_of g b) m.at))
          (and_under (terms (tree_of g c) 0 false) (taken x (tree_of g b) m.at)) (and_under (terms (tree_of g c) 0 true) (taken x (tree_of g a) m.at))
          (always (Some (unfolded g.signals (trees g) (Mux c a b), m.at)))
          (ih (node b m.at) is.2.1 nodes.2) (ih (node a m.at) is.2.0 nodes.1) (Some m, ap (λ (t : Tree). Some (t, m.at)) (sym tree), own.0))
      go _ e = other (λ c a b f. let both = sym e ∙ f in cc)

  taken-below : (k : ℕ) → AreTakenBelow k
  taken-below zero n l is = absurd (omega arith)
  taken-below (suc k) n l is = go (reaches g well n is) (taken-below k)
    where
      start : taken x (tree_of g n.cell) n.at ≡ taken_bit x (origin (tree_of g n.cell) n.at)
      start = taken_origin x (tree_of g n.cell) n.at

      go : IsReach g n → AreTakenBelow k → IsTakenAt n
      go (inl e) ih = (None, ap (λ (t : Taken). t.node) (start ∙ ap (taken_bit x) e), tt)
      go (inr (m, h, low, e)) ih =
          let own : IsOwn g m = (h, origin_stops (tree_of g n.cell) n.at (tree_of g m.cell) m.at e) in
          let s = at-own m own (λ p lower there. ih p (omega (arith, lower, low, l)) there) in
          (s.0, ap (λ (t : Taken). t.node) (start ∙ ap (taken_bit x) e) ∙ s.1, s.2)

  pub taken-there : (n : Node) → IsNodeOf g n → IsShownIn g (taken x (tree_of g n.cell) n.at).node
  taken-there n is = taken-below (suc n.cell.0) n (omega arith) is

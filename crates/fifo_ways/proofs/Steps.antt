-- Nodes that choose a word first, and bits of signals.
use Rattle.std.proofs.Common.{◌≡◌, ◌≢◌, ◌∙◌, sym, ap, ap₂, refl, subst, arith, ℕ, zero, suc, ◌<◌, true, List, [], ◌∷◌, length, Option, Some, None, option_map}
use Rattle.cdc_base.specs.declared.bit.Bit.{Bit}
use Rattle.cdc_base.specs.declared.signal.Signal.{Signal}
use Rattle.cell_graph.specs.declared.cell.Cell.TheVariants.{Var, Mux}
use Rattle.cell_graph.specs.declared.cell.CellId.{CellId}
use Rattle.cell_graph.specs.declared.cell.Node.{Node}
use Rattle.cell_graph.specs.Cells.{Cells, cell_at, cell_width, signal_width}
use Rattle.cell_graph.specs.Nets.{bit_count}
use Rattle.cell_graph.specs.Tree as tree
use Rattle.cell_graph.specs.Tree.{Tree, width}
use Rattle.cell_graph.specs.Origin.{TreeBit, origin}
use Rattle.cell_graph.specs.Unfolded.{unfolded, trees, tree_of, IsCellOf, IsNodeOf, bit_of}
use Rattle.cell_graph.proofs.Trees.{width-tree_of}
use Rattle.cdc_model.specs.Design.{Design}
use Rattle.fifo_terms.specs.Terms.{HaveOneSet, terms}
use Rattle.fifo_laws.specs.Sides.{Side}
use Rattle.fifo_laws.specs.Words.{index_terms}
use Rattle.gray_pointer.specs.Words.{IsPlain, IsIn}
use Rattle.gray_pointer.proofs.Bits.{own_bit, same_tree, same_place}
use Rattle.gray_pointer.proofs.Trees.{tree_there, is_cell, is_mux}
use Rattle.gray_pointer.proofs.Wholes.{signal_bit, bit_signal}
use Rattle.fifo_nodes.specs.Terms.{terms_at}
use Rattle.fifo_ways.specs.declared.choice.Branches.{Branches}
use Rattle.fifo_ways.specs.Steps.{IsSignalBit, AreBranches, IsStep, node_at}

-- the width of a signal that is there, in two ways
pub one_width : (signals : List Signal) (sig : ℕ) → sig < length signals → signal_width signals sig ≡ bit_count signals sig
one_width [] sig l = absurd (omega arith)
one_width (s ∷ ss) zero l = refl
one_width (s ∷ ss) (suc k) l = one_width ss k (omega arith)

-- the signal of a cell of the graph is there
pub signal_there : (g : Cells) → IsPlain g → (c : CellId) → c.0 < length g.cells → (sig : ℕ) → cell_at g c ≡ Var sig
    → signal_width g.signals sig ≡ bit_count g.signals sig
signal_there g plain c l sig e = one_width g.signals sig (subst (IsCellOf g c.0) e (is_cell g plain.well c l))

-- A bit of the graph that is there.
module _ (g : Cells) (plain : IsPlain g) (o : Option Node) (there : IsIn g o) (n : Node) (was : o ≡ Some n) where
  is : IsNodeOf g n
  is = subst (IsIn g) was there

  bit_is : option_map (bit_of g) o ≡ Some (bit_of g n)
  bit_is = ap (option_map (bit_of g)) was

  module _ (d : Design) (wide : (sig : ℕ) → d.width sig ≡ bit_count g.signals sig) where
    pub signal_found : (sig : ℕ) → cell_at g n.cell ≡ Var sig → IsSignalBit d (option_map (bit_of g) o) (Some (record { sig = sig; at = n.at }))
    signal_found sig e =
        bit_is ∙ sym (signal_bit g plain n is sig (d.width sig) (signal_there g plain n.cell is.0 sig e ∙ sym (wide sig)) n.at refl e)

    pub no_signal : ((sig : ℕ) → cell_at g n.cell ≢ Var sig) → IsSignalBit d (option_map (bit_of g) o) None
    no_signal none m e = none m.sig (bit_signal g plain n is m.sig (d.width m.sig) m.at (sym e ∙ bit_is))

  -- ---- the branches of a multiplexer

  pub no_branches : ((c x y : CellId) → cell_at g n.cell ≢ Mux c x y) → AreBranches g (option_map (bit_of g) o) None
  no_branches none c a b i e =
      let m = is_mux g plain.well n.cell is.0 c a b (same_tree (tree_of g n.cell) (tree.Mux c a b) n.at i (sym bit_is ∙ e)) in
      none m.0 m.1 m.2 m.3

  module _ (c x y : CellId) (m : cell_at g n.cell ≡ Mux c x y) where
    mux : tree_of g n.cell ≡ tree.Mux (tree_of g c) (tree_of g x) (tree_of g y)
    mux = tree_there g plain.well n.cell is.0 ∙ ap (unfolded g.signals (trees g)) m

    parts : IsCellOf g n.cell.0 (Mux c x y)
    parts = subst (IsCellOf g n.cell.0) m (is_cell g plain.well n.cell is.0)

    wide : cell_width g n.cell ≡ cell_width g x
    wide = width-tree_of g n.cell ∙ ap width mux ∙ sym (width-tree_of g x)

    cond_node : IsNodeOf g (node_at c 0)
    cond_node = let a = parts.0 in let b = parts.1 in let l = is.0 in ((omega arith), (omega arith))

    pub yes_node : IsNodeOf g (node_at x n.at)
    yes_node = let a = parts.2.0 in let l = is.0 in let r = is.1 in let z = wide in ((omega arith), (omega arith))

    pub other_node : IsNodeOf g (node_at y n.at)
    other_node = let b = parts.2.1 in let e = parts.2.2 in let l = is.0 in let r = is.1 in let z = wide in ((omega arith), (omega arith))

    pub branches_found : (p q : Option Node) → origin (tree_of g x) n.at ≡ option_map (bit_of g) p
        → origin (tree_of g y) n.at ≡ option_map (bit_of g) q → IsIn g p → IsIn g q
        → AreBranches g (option_map (bit_of g) o) (Some (record { cond = node_at c 0; yes = p; other = q }))
    branches_found p q e f h k = ((tree_of g x, tree_of g y, n.at, bit_is ∙ ap (λ (t : Tree). Some (t, n.at)) mux, e, f), refl, cond_node, h, k)

-- ---- the first word of a choice

module _ (g : Cells) (d : Design) (s : Side) (n : ℕ) (x : TreeBit) where
  pub no_step : AreBranches g x None → IsStep g d s n x None
  no_step none word rest f = none f.0 f.1 f.2 f.3 f.4

  module _ (b : Branches) (are : AreBranches g x (Some b)) where
    -- the node is a multiplexer's in one way
    told : (c p q : Tree) (i : ℕ) → x ≡ Some (tree.Mux c p q, i) → (c ≡ tree_of g b.cond.cell) × (origin p i ≡ option_map (bit_of g) b.yes)
    told c p q i e =
        let f : own_bit (tree.Mux c p q) i ≡ own_bit (tree.Mux (tree_of g b.cond.cell) are.0.0 are.0.1) are.0.2 = sym e ∙ are.0.3 in
        let t = same_tree (tree.Mux c p q) (tree.Mux (tree_of g b.cond.cell) are.0.0 are.0.1) i are.0.2 f in
        let k = same_place (tree.Mux c p q) (tree.Mux (tree_of g b.cond.cell) are.0.0 are.0.1) i are.0.2 f in
        let first : c ≡ tree_of g b.cond.cell = cc in
        let yes : p ≡ are.0.0 = cc in
        (first, ap₂ origin yes k ∙ are.0.4)

    pub other_word : IsSignalBit d (option_map (bit_of g) b.yes) None → IsStep g d s n x None
    other_word none word rest f = none word (sym (told f.0 f.1 f.2 f.3 f.4).1 ∙ f.6)

    -- the condition's terms are those of its node
    cond_terms : terms (tree_of g b.cond.cell) 0 true ≡ terms_at g b.cond true
    cond_terms = ap (λ (k : ℕ). terms (tree_of g b.cond.cell) k true) (sym are.1)

    pub other_place : (HaveOneSet (terms_at g b.cond true) (index_terms d s n) → ⊥) → IsStep g d s n x None
    other_place none word rest f =
        let same = ap (λ (t : Tree). terms t 0 true) (told f.0 f.1 f.2 f.3 f.4).0 ∙ cond_terms in
        none (subst (λ ts. HaveOneSet ts (index_terms d s n)) same f.5)

    pub step_found : (word : Bit) → IsSignalBit d (option_map (bit_of g) b.yes) (Some word) → HaveOneSet (terms_at g b.cond true) (index_terms d s n)
        → IsStep g d s n x (Some (record { word = word; rest = b.other }))
    step_found word e h =
        let one_set = subst (λ ts. HaveOneSet ts (index_terms d s n)) (sym cond_terms) h in
        ((tree_of g b.cond.cell, are.0.0, are.0.1, are.0.2, are.0.3, one_set, are.0.4 ∙ e, are.0.5), are.4)

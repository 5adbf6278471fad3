-- The next value of a register bit that is a choice's compares nothing.
use Rattle.std.proofs.Common.{◌≡◌, ◌∙◌, sym, ap, ap₂, subst, inl, inr, ℕ, Bool, true, not, Option, Some, None, option_map, List, [], Contains}
use Rattle.cdc_base.specs.declared.bit.Bit.{Bit}
use Rattle.cell_graph.specs.declared.cell.Cell.TheVariants.{Mux}
use Rattle.cell_graph.specs.declared.cell.CellId.{CellId}
use Rattle.cell_graph.specs.declared.cell.Node.{Node}
use Rattle.cell_graph.specs.declared.net.Net.{Net}
use Rattle.cell_graph.specs.Cells.{cell_at}
use Rattle.cell_graph.specs.Cofactor.{known}
use Rattle.cell_graph.specs.Origin.{origin}
use Rattle.cell_graph.specs.Tree as tree
use Rattle.cell_graph.specs.Tree.{Tree}
use Rattle.cell_graph.specs.Unfolded.{bit_of, trees, tree_of, unfolded, IsNodeOf}
use Rattle.cofactor.specs.Shown.{Shown as Rows}
use Rattle.domains.specs.declared.Domains.{Domains}
use Rattle.cdc_model.specs.Nets.{is_register_bit, next_node_of, next_tree}
use Rattle.cdc_model.proofs.Ascending.{here, nothing_in, parts}
use Rattle.cdc_model.proofs.ReadBits.{place-of}
use Rattle.fifo_terms.specs.Shows.{node_terms}
use Rattle.fifo_terms.specs.Terms.{Term, Is, itself, terms, unless_known}
use Rattle.gray_pointer.proofs.Trees.{tree_there}
use Rattle.fifo_nodes.proofs.Origins.{terms_origin}
use Rattle.fifo_parts.specs.declared.flags.Comparisons.{Comparisons}
use Rattle.fifo_parts.specs.declared.flags.Flag.{Flag}
use Rattle.fifo_parts.specs.Comparisons.{CompareAll, IsAdded, IsKeptBy}
use Rattle.fifo_parts.specs.Tellers.{IsShown}
use Rattle.fifo_parts.proofs.Tests.{next_is, plain_net}

-- the bit of a choice that isn't known has one term, that it has the value
own_term : (c a b : Tree) (i : ℕ) → known [] (tree.Mux c a b) i ≡ None → (v : Bool) → terms (tree.Mux c a b) i v ≡ itself (tree.Mux c a b) i v
own_term c a b i unknown v = ap (λ o. unless_known o v (itself (tree.Mux c a b) i v)) unknown

module _ (net : Net) (table : Rows) (shown : IsShown net table) (domains : Domains) (x : Bit) (register : is_register_bit net x ≡ true) (n : Node)
    (next : next_node_of net x ≡ Some n) (o : Option Node) (at : origin (tree_of net.graph n.cell) n.at ≡ option_map (bit_of net.graph) o) (m : Node)
    (was : o ≡ Some m) (is : IsNodeOf net.graph m) (c a b : CellId) (choice : cell_at net.graph m.cell ≡ Mux c a b)
    (unknown : known [] (tree_of net.graph m.cell) m.at ≡ None) where
  tree_is : tree_of net.graph m.cell ≡ tree.Mux (tree_of net.graph c) (tree_of net.graph a) (tree_of net.graph b)
  tree_is = tree_there net.graph (plain_net net table shown).well m.cell is.0 ∙ ap (unfolded net.graph.signals (trees net.graph)) choice

  term : (v : Bool) → terms (tree_of net.graph m.cell) m.at v ≡ itself (tree_of net.graph m.cell) m.at v
  term v = subst (λ (t : Tree). known [] t m.at ≡ None → terms t m.at v ≡ itself t m.at v) (sym tree_is)
      (λ e. own_term (tree_of net.graph c) (tree_of net.graph a) (tree_of net.graph b) m.at e v) unknown

  next_term : (v : Bool) → terms (next_tree net x.sig) x.at v ≡ itself (tree_of net.graph m.cell) m.at v
  next_term v = ap₂ (λ (t : Tree) (i : ℕ). terms t i v) (next_is net table shown domains x register n next) (sym (place-of net x n next))
      ∙ terms_origin (tree_of net.graph n.cell) n.at v ∙ ap (λ p. node_terms p v) (at ∙ ap (option_map (bit_of net.graph)) was) ∙ term v

  compares_nothing : (v : Bool) (bits : List Bit) → CompareAll net domains (terms (tree_of net.graph m.cell) m.at v) bits → ⊥
  compares_nothing v bits all =
      (all (Is (Some (bit_of net.graph m)) v) (subst (λ (ts : List Term). Contains ts (Is (Some (bit_of net.graph m)) v)) (sym (term v))
      (here (Is (Some (bit_of net.graph m)) v) []))).2

  only_itself : (v : Bool) (t : Term) → Contains (itself (tree_of net.graph m.cell) m.at v) t → Is (Some (bit_of net.graph m)) v ≡ t
  only_itself v t i = elim (parts (Is (Some (bit_of net.graph m)) v) [] t i) [ inl e ↦ e | inr j ↦ absurd (nothing_in t j) ]

  pub adds_nothing : (k : Comparisons) (v : Bool) → IsAdded net domains k (record { bit = x; value = v })
  adds_nothing k v clock on t i =
      let f : Flag = record { bit = x; value = v } in
      subst (IsKeptBy net domains k.by_bit k.by_clock f clock)
      (only_itself v t (subst (λ (ts : List Term). Contains ts t) (next_term v) i))
      (λ bits all. absurd (compares_nothing (not v) bits all))

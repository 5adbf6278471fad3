-- Bits of signals, by the cells of a graph.
use Rattle.std.proofs.Common.{◌≡◌, ◌≢◌, ◌∙◌, ◌↔◌, sym, ap, ap₂, refl, subst, arith, ℕ, zero, suc, ◌<◌, ◌==◌, ◌&&◌, Bool, true, false, length, Option, Some, None, option_map, List, [], ◌∷◌, eqb-true, eq-eqb, ne_eqb}
use Rattle.std.proofs.lemmas.Bool.{and_parts}
use Rattle.cdc_base.specs.declared.bit.Bit.{Bit}
use Rattle.cdc_base.specs.declared.signal.Signal.{Signal}
use Rattle.cell_graph.specs.declared.cell.Cell.{Cell}
use Rattle.cell_graph.specs.declared.cell.Cell.TheVariants.{Var, Reduce}
use Rattle.cell_graph.specs.declared.cell.Node.{Node}
use Rattle.cell_graph.specs.declared.cell.ReduceKind.TheVariants as kind
use Rattle.cell_graph.specs.Cells.{Cells, cell_at, signal_width}
use Rattle.cell_graph.specs.Nets.{bit_count}
use Rattle.cell_graph.specs.Tree as tree
use Rattle.cell_graph.specs.Tree.{Tree}
use Rattle.cell_graph.specs.Unfolded.{unfolded, trees, tree_of, bit_of, IsCellOf, IsWellFormed, IsNodeOf}
use Rattle.fifo_terms.specs.Takes.{is_own, is_var}
use Rattle.gray_pointer.proofs.Bits.{same_tree, same_place}
use Rattle.gray_pointer.proofs.Trees.{tree_there, is_cell}
use Rattle.gray_pointer.specs.Words.{IsIn}
use Rattle.fifo_nodes.specs.Nodes.{signal_bit}

-- a signal that is there has its width by either count
same_width : (signals : List Signal) (sig : ℕ) → sig < length signals → signal_width signals sig ≡ bit_count signals sig
same_width [] sig l = absurd (omega arith)
same_width (s ∷ ss) zero l = refl
same_width (s ∷ ss) (suc n) l = same_width ss n (omega arith)

module _ (g : Cells) (well : IsWellFormed g) (bit : Bit) where
  module _ (n : Node) (is : IsNodeOf g n) where
    there : tree_of g n.cell ≡ unfolded g.signals (trees g) (cell_at g n.cell)
    there = tree_there g well n.cell is.0

    pub var_own : (sig : ℕ) → cell_at g n.cell ≡ Var sig → is_own bit (Some (bit_of g n)) ≡ ((sig == bit.sig) && (n.at == bit.at))
    var_own sig m = ap (λ t. is_var bit t n.at) (there ∙ ap (unfolded g.signals (trees g)) m)

    pub same_signal : (sig : ℕ) → cell_at g n.cell ≡ Var sig → sig ≡ bit.sig → is_own bit (Some (bit_of g n)) ≡ (n.at == bit.at)
    same_signal sig m e = var_own sig m ∙ ap (λ v. v && (n.at == bit.at)) (eq-eqb sig bit.sig e)

    pub other_signal : (sig : ℕ) → cell_at g n.cell ≡ Var sig → sig ≢ bit.sig → is_own bit (Some (bit_of g n)) ≡ (sig == bit.sig)
    other_signal sig m h = let e = ne_eqb sig bit.sig h in var_own sig m ∙ ap (λ v. v && (n.at == bit.at)) e ∙ sym e

    pub other_own : ((sig : ℕ) → cell_at g n.cell ≢ Var sig) → is_own bit (Some (bit_of g n)) ≡ false
    other_own h = ap (λ t. is_var bit t n.at) there ∙ go (cell_at g n.cell) h
      where
        go : (c : Cell) → ((sig : ℕ) → c ≢ Var sig) → is_var bit (unfolded g.signals (trees g) c) n.at ≡ false
        go (Var sig) k = absurd (k sig refl)
        go (Reduce kind.And a) k = refl
        go (Reduce kind.Or a) k = refl
        go (Reduce kind.Xor a) k = refl
        go _ k = refl

    -- its own bit is that of the signal
    own_signal : is_var bit (tree_of g n.cell) n.at ≡ true → Some (bit_of g n) ≡ signal_bit g bit
    own_signal h = go (cell_at g n.cell) refl (sym (ap (λ t. is_var bit t n.at) there) ∙ h)
      where
        go : (c : Cell) → cell_at g n.cell ≡ c → is_var bit (unfolded g.signals (trees g) c) n.at ≡ true → Some (bit_of g n) ≡ signal_bit g bit
        go (Var sig) m k =
            let both = and_parts (sig == bit.sig) (n.at == bit.at) k in
            let s : sig ≡ bit.sig = eqb-true sig bit.sig both.0 in
            let a : n.at ≡ bit.at = eqb-true n.at bit.at both.1 in
            let l : sig < length g.signals = subst (IsCellOf g n.cell.0) m (is_cell g well n.cell is.0) in
            let t : tree_of g n.cell ≡ tree.Var bit.sig (bit_count g.signals bit.sig) =
            there ∙ ap (unfolded g.signals (trees g)) m ∙ ap (tree.Var sig) (same_width g.signals sig l)
            ∙ ap (λ k. tree.Var k (bit_count g.signals k)) s in
            ap₂ (λ (u : Tree) (j : ℕ). Some (u, j)) t a
        go (Reduce kind.And a) m k = absurd (cc)
        go (Reduce kind.Or a) m k = absurd (cc)
        go (Reduce kind.Xor a) m k = absurd (cc)
        go _ m k = absurd (cc)

    signal_own : Some (bit_of g n) ≡ signal_bit g bit → is_var bit (tree_of g n.cell) n.at ≡ true
    signal_own e =
        let t = same_tree (tree_of g n.cell) (tree.Var bit.sig (bit_count g.signals bit.sig)) n.at bit.at e in
        let a = same_place (tree_of g n.cell) (tree.Var bit.sig (bit_count g.signals bit.sig)) n.at bit.at e in
        ap₂ (λ u j. is_var bit u j) t a ∙ ap₂ (λ p q. p && q) (eq-eqb bit.sig bit.sig refl) (eq-eqb bit.at bit.at refl)

  -- a node is the signal's bit where it is its own bit
  pub bit_tells : (o : Option Node) → IsIn g o → (is_own bit (option_map (bit_of g) o) ≡ true) ↔ (option_map (bit_of g) o ≡ signal_bit g bit)
  bit_tells None is = (λ h. cc, λ h. cc)
  bit_tells (Some n) is = (own_signal n is, signal_own n is)

  -- what tells its own bit tells that it is the signal's
  pub told_bit : (o : Option Node) (r : Bool) → IsIn g o → r ≡ is_own bit (option_map (bit_of g) o)
      → (r ≡ true) ↔ (option_map (bit_of g) o ≡ signal_bit g bit)
  told_bit o r is e = subst (λ v. (v ≡ true) ↔ (option_map (bit_of g) o ≡ signal_bit g bit)) (sym e) (bit_tells o is)

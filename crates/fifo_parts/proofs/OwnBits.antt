-- Nodes that are bits of signals themselves, and terms that say flags.
use Rattle.std.proofs.Common.{◌≡◌, ◌≢◌, ◌∙◌, ◌↔◌, sym, ap, ap₂, refl, subst, ℕ, Bool, true, false, ◌==◌, ◌&&◌, Some, None, List, Contains, eqb-true}
use Rattle.std.proofs.Common.{eq-eqb}
use Rattle.std.proofs.lemmas.Bool.{and_parts}
use Rattle.cdc_base.specs.declared.bit.Bit.{Bit}
use Rattle.cell_graph.specs.declared.cell.Cell.{Cell}
use Rattle.cell_graph.specs.declared.cell.Cell.TheVariants.{Var}
use Rattle.cell_graph.specs.declared.cell.Node.{Node}
use Rattle.cell_graph.specs.Cells.{Cells, cell_at}
use Rattle.cell_graph.specs.Origin.{TreeBit}
use Rattle.cell_graph.specs.Unfolded.{bit_of, IsNodeOf}
use Rattle.fifo_terms.specs.Takes.{is_own}
use Rattle.fifo_terms.specs.Terms as rules
use Rattle.gray_pointer.specs.Words.{IsPlain}
use Rattle.fifo_nodes.specs.declared.term.Term.{Term}
use Rattle.fifo_nodes.specs.declared.term.Term.TheVariants.{Is, Differ}
use Rattle.fifo_nodes.specs.Nodes.{signal_bit}
use Rattle.fifo_nodes.specs.Terms.{term_of}
use Rattle.fifo_nodes.proofs.SignalBits.{bit_tells, other_own, var_own}
use Rattle.fifo_parts.specs.declared.flags.Flag.{Flag}
use Rattle.fifo_parts.specs.Comparisons.{own_bit, var_bit}
use Rattle.fifo_parts.specs.Tellers.{SaysFlag}

module _ (g : Cells) (plain : IsPlain g) (n : Node) (is : IsNodeOf g n) (b : Bit) where
  -- a node that is itself the bit of a signal is that as a bit of its tree, and the other way round
  pub own_signal : own_bit g n ≡ Some b → Some (bit_of g n) ≡ signal_bit g b
  own_signal h = (bit_tells g plain.well b (Some n) is).0 (go (cell_at g n.cell) refl h)
    where
      go : (c : Cell) → cell_at g n.cell ≡ c → var_bit c n.at ≡ Some b → is_own b (Some (bit_of g n)) ≡ true
      go (Var sig) m k =
          let s : sig ≡ b.sig = cc in
          let a : n.at ≡ b.at = cc in
          var_own g plain.well b n is sig m ∙ ap₂ (λ u v. u && v) (eq-eqb sig b.sig s) (eq-eqb n.at b.at a)
      go _ m k = absurd (cc)

  pub signal_own : Some (bit_of g n) ≡ signal_bit g b → own_bit g n ≡ Some b
  signal_own h = go (cell_at g n.cell) refl ((bit_tells g plain.well b (Some n) is).1 h)
    where
      go : (c : Cell) → cell_at g n.cell ≡ c → is_own b (Some (bit_of g n)) ≡ true → var_bit c n.at ≡ Some b
      go (Var sig) m k =
          let both = and_parts (sig == b.sig) (n.at == b.at) (sym (var_own g plain.well b n is sig m) ∙ k) in
          let s = eqb-true sig b.sig both.0 in
          let a = eqb-true n.at b.at both.1 in
          ap₂ (λ (x y : ℕ). let c : Bit = record { sig = x; at = y } in Some c) s a
      go _ m k = let no : false ≡ true = sym (other_own g plain.well b n is (λ sig e. let f = sym m ∙ e in cc)) ∙ k in cc

module _ (g : Cells) (flags : List Flag) where
  -- a term that isn't that a node has a value says no flag
  pub says_none : (t : Term) → ((n : Node) (v : Bool) → t ≢ Is (Some n) v) → SaysFlag g flags (term_of g t) → ⊥
  says_none (Is None v) h (f, i, e) = cc
  says_none (Is (Some n) v) h (f, i, e) = h n v refl
  says_none (Differ a b v) h (f, i, e) = cc

  same_node : (x y : TreeBit) (u v : Bool) → rules.Is x u ≡ rules.Is y v → (x ≡ y) × (u ≡ v)
  same_node x y u v e = (cc, cc)

  module _ (plain : IsPlain g) (n : Node) (v : Bool) (is : IsNodeOf g n) where
    -- a term that a node has a value says the flag of the bit that the node is
    pub says_own : (b : Bit) → own_bit g n ≡ Some b → (let f : Flag = record { bit = b; value = v } in Contains flags f)
        ↔ SaysFlag g flags (term_of g (Is (Some n) v))
    says_own b own = (
      λ i. ((let f : Flag = record { bit = b; value = v } in f), i, ap (λ (x : TreeBit). rules.Is x v) (own_signal g plain n is b own)),
      λ (f, i, e).
          let same = same_node (Some (bit_of g n)) (signal_bit g f.bit) v f.value e in
          let own_f = signal_own g plain n is f.bit same.0 in
          let bits : f.bit ≡ b = cc in
          let flag : f ≡ record { bit = b; value = v } = ap₂ (λ (x : Bit) (u : Bool). let h : Flag = record { bit = x; value = u } in h) bits
          (sym same.1) in
          subst (Contains flags) flag i,
    )

    pub says_other : own_bit g n ≡ None → SaysFlag g flags (term_of g (Is (Some n) v)) → ⊥
    says_other none (f, i, e) =
        let own_f = signal_own g plain n is f.bit (same_node (Some (bit_of g n)) (signal_bit g f.bit) v f.value e).0 in
        let no : None ≡ Some f.bit = sym none ∙ own_f in cc

-- What one register bit more takes.
use Rattle.std.proofs.Common.{◌≡◌, ◌∙◌, sym, ap, ap₂, subst, inl, inr, arith, ℕ, ◌+◌, ◌<◌, ◌&&◌, true, false, is_some, length, Some, None, List, [], ◌∷◌, ◌++◌, map, Contains, get_or, drop, lt-ltb}
use Rattle.std.specs.Prelude.{◌≤◌}
use Rattle.std.proofs.lemmas.List.{append-nil, append_assoc, drop_all, drop_more, get_or_default, map-append}
use Rattle.std.proofs.lemmas.List.Elements.{Contains-push_cases}
use Rattle.cdc_base.specs.declared.bit.Bit.{Bit}
use Rattle.cell_graph.specs.declared.cell.Node.{Node}
use Rattle.cell_graph.specs.declared.net.Net.{Net}
use Rattle.cell_graph.specs.Unfolded.{IsNodeOf, tree_of}
use Rattle.cdc_model.specs.Nets.{HasNextCells, bit_count, bits_of_registers, is_register_bit, next_cell, next_node_of, next_tree, tree_or_zero}
use Rattle.cdc_model.proofs.Found.{from_registers, has_next}
use Rattle.cdc_model.proofs.ReadBits.{cell-of, no-cell, place-of}
use Rattle.fifo_terms.specs.Takes.{taken}
use Rattle.fifo_nodes.specs.declared.takes.Taken.{Taken}
use Rattle.fifo_nodes.specs.Takes.{IsTaken}
use Rattle.fifo_parts.specs.declared.words.Taking.{Taking}
use Rattle.fifo_parts.specs.Words.{AreTakings, IsTaking}

pub in_list : {X : Type 0} (xs : List X) (i : ℕ) (d : X) → i < length xs → Contains xs (get_or xs i d)
in_list xs i d l = (i, l, get_or_default xs i (get_or xs i d) d l)

module _ (net : Net) (has : HasNextCells net) (b : Bit) (inside : Contains (bits_of_registers net.graph.signals net.regs) b) where
  register : (is_some (next_cell net.regs b.sig) ≡ true) × (b.at < bit_count net.graph.signals b.sig)
  register =
      let k = from_registers net.graph.signals net.regs b inside in
      (ap (λ n. is_some (next_cell net.regs n)) k.2 ∙ has_next net.regs k.0 k.1, k.3)

  pub register_bit : is_register_bit net b ≡ true
  register_bit = ap₂ (λ p q. p && q) register.0 (lt-ltb b.at (bit_count net.graph.signals b.sig) register.1)

  pub no_next : next_node_of net b ≡ None → ⊥
  no_next e = let both : false ≡ true = sym (ap is_some (no-cell net b e)) ∙ register.0 in cc

  module _ (n : Node) (e : next_node_of net b ≡ Some n) where
    pub node_there : IsNodeOf net.graph n
    node_there =
        let h = has b.sig n.cell (cell-of net b n e) in
        let w = h.1 in
        let l = register.1 in
        let at = place-of net b n e in
        (h.0, omega arith)

    pub is_taking : (found : Taken) → IsTaken net.graph (taken b (tree_of net.graph n.cell) n.at) found
        → IsTaking net (record { bit = b; taken = found })
    is_taking found is = (
      register_bit,
      subst (λ k. IsTaken net.graph (taken b (next_tree net b.sig) k) found) (place-of net b n e)
          (subst (λ t. IsTaken net.graph (taken b t n.at) found) (sym (ap (tree_or_zero net.graph) (cell-of net b n e))) is),
    )

module _ (net : Net) (bits : List Bit) where
  -- the takings so far are those of the bits before place i
  abbrev pub AreTakingsSoFar : ℕ → List Taking → Type 0
  AreTakingsSoFar i ts = (map (λ (t : Taking). t.bit) ts ++ drop i bits ≡ bits) × ((t : Taking) → Contains ts t → IsTaking net t)

  pub takings_more : (i : ℕ) (ts : List Taking) (t : Taking) (d : Bit) → i < length bits → t.bit ≡ get_or bits i d → IsTaking net t
      → AreTakingsSoFar i ts → AreTakingsSoFar (i + 1) (ts ++ t ∷ [])
  takings_more i ts t d l at is (so, each) = (
    ap (λ xs. xs ++ drop (i + 1) bits) (map-append (λ (x : Taking). x.bit) ts (t ∷ []))
        ∙ append_assoc (map (λ (x : Taking). x.bit) ts) (t.bit ∷ []) (drop (i + 1) bits)
        ∙ ap (λ b. map (λ (x : Taking). x.bit) ts ++ b ∷ drop (i + 1) bits) at
        ∙ ap (λ xs. map (λ (x : Taking). x.bit) ts ++ xs) (sym (drop_more bits i d l)) ∙ so,
    λ x j. elim (Contains-push_cases ts t x j) [ inl k ↦ each x k | inr e ↦ subst (IsTaking net) e is ],
  )

  pub takings_end : (i : ℕ) (ts : List Taking) → length bits ≤ i → bits ≡ bits_of_registers net.graph.signals net.regs → AreTakingsSoFar i ts
      → AreTakings net ts
  takings_end i ts le are (so, each) = record {
    bits = sym (append-nil (map (λ (t : Taking). t.bit) ts)) ∙ ap (λ xs. map (λ (t : Taking). t.bit) ts ++ xs) (sym (drop_all i bits le)) ∙ so ∙ are;
    each = each;
  }

-- The widths and clocks of two sides that a search judges, and the terms of their word bits.
use Rattle.std.proofs.Common.{◌≡◌, ◌∙◌, sym, ap, ap₂, subst, inl, inr, arith, ℕ, zero, suc, ◌-◌, ◌<◌, ◌≤◌, Bool, true, Some, None, is_some, List, Contains}
use Rattle.std.proofs.lemmas.Bool.{and_parts, cases_lt}
use Rattle.cdc_base.specs.declared.bit.Bit.{Bit}
use Rattle.cell_graph.specs.declared.net.Net.{Net}
use Rattle.cell_graph.specs.Tree.{Tree, Var, bit_at}
use Rattle.cell_graph.specs.Unfolded.{bit_of, tree_of}
use Rattle.cofactor.specs.Shown.{Shown as Rows}
use Rattle.domains.specs.declared.Domains.{Domains}
use Rattle.cdc_model.specs.declared.scheme.GrayReg.{GrayReg}
use Rattle.cdc_model.specs.Nets.{bit_count, bits_of_registers, design_of, is_register_bit, is_within, next_cell, next_tree}
use Rattle.cdc_model.specs.Schemes.{Sync}
use Rattle.cdc_model.proofs.Ascending.{here, later, from_map}
use Rattle.cdc_model.proofs.Justify.{in_slice}
use Rattle.cdc_model.proofs.NetDesign.{in_bits}
use Rattle.gray_pointer.specs.Words.{IsPlain}
use Rattle.gray_pointer.proofs.Trees.{is_var}
use Rattle.std.proofs.Common.{ltb-true}
use Rattle.fifo_terms.specs.Terms as rules
use Rattle.fifo_terms.specs.Terms.{AreOne, HasTerm}
use Rattle.fifo_laws.specs.Sides.{Side, side_width}
use Rattle.fifo_laws.specs.Words.{IsWord, IsWordBit, low_bits}
use Rattle.fifo_nodes.specs.declared.term.Term.{Term}
use Rattle.fifo_nodes.specs.declared.term.Term.TheVariants.{Is, Differ}
use Rattle.fifo_nodes.specs.Terms.{IsTermIn, term_of}
use Rattle.fifo_scheme.specs.declared.index.Index.{Index}
use Rattle.fifo_parts.specs.declared.side.Side.{Side as SideEntry}
use Rattle.fifo_parts.specs.declared.words.Taking.{Taking}
use Rattle.fifo_parts.specs.Brought.{places_at}
use Rattle.fifo_parts.specs.Comparisons.{var_bit}
use Rattle.fifo_parts.specs.Words.{lowest, SaysBit, SaysLowest}
use Rattle.fifo_scheme.specs.Indexed.{IsCounter, IsIndex}
use Rattle.fifo_scheme.specs.Met.{AreGathered, AreWords, IsWordAt}
use Rattle.fifo_parts.specs.Tellers.{IsShown, IsSideOf}
use Rattle.fifo_parts.specs.Words.{AreTakings, IsTaking}

pub plain_shown : (net : Net) (table : Rows) → IsShown net table → IsPlain net.graph
plain_shown net table h = record { well = h.is_net.graph; shared = h.is_shared }

low_in : (sig w m n j : ℕ) → j < m → Contains (low_bits sig w m n) (rules.Is (Some (Var sig w, j)) (bit_at n j))
low_in sig w zero n j l = absurd (omega arith)
low_in sig w (suc m) n j l = elim (cases_lt j m) [
  | inl a ↦ later (rules.Is (Some (Var sig w, m)) (bit_at n m)) (low_bits sig w m n) (rules.Is (Some (Var sig w, j)) (bit_at n j)) (low_in sig w m n j a)
  | inr a ↦ (let e : m ≡ j = omega arith in subst (λ k. Contains (low_bits sig w (suc m) n) (rules.Is (Some (Var sig w, k)) (bit_at n k))) e (here (rules.Is (Some (Var sig w, m)) (bit_at n m)) (low_bits sig w m n)))
]

one_is : (m : _) (v : Bool) (u : rules.Term) → AreOne (rules.Is m v) u → u ≡ rules.Is m v
one_is m v (rules.Is n w) h = ap₂ rules.Is (sym h.0) (sym h.1)
one_is m v (rules.Differ a b w) h = absurd h

module _ (net : Net) (domains : Domains) where
  pub wide_of : (e : SideEntry) (s : Side) → IsSideOf net domains e s → (2 ≤ side_width (design_of net domains) s) × (side_width (design_of net domains) s ≤ 11) × (side_width (design_of net domains) s ≡ e.width)
  wide_of e s h =
      let w : bit_count net.graph.signals s.reg.count ≡ e.width = ap (λ (g : GrayReg). bit_count net.graph.signals g.count) h.reg ∙ h.alone.count_width in
      let wide = h.alone.wide in
      ((omega arith), (omega arith), w)

  -- the term says the lowest bit of the count
  said_bit : IsPlain net.graph → (t : Term) → IsTermIn net.graph t → (sig w : ℕ) (v : Bool) → term_of net.graph t ≡ rules.Is (Some (Var sig w, 0)) v → SaysBit net sig t
  said_bit plain (Is None u) is sig w v e = cc
  said_bit plain (Is (Some n) u) is sig w v e =
      let o : Some (bit_of net.graph n) ≡ Some (Var sig w, 0) = cc in
      let f : bit_of net.graph n ≡ (Var sig w, 0) = cc in
      let t : tree_of net.graph n.cell ≡ Var sig w = ap (λ (p : Tree × ℕ). p.0) f in
      let a : n.at ≡ 0 = ap (λ (p : Tree × ℕ). p.1) f in
      ap₂ var_bit (is_var net.graph plain.well n.cell is.0 sig w t) a
  said_bit plain (Differ a b u) is sig w v e = cc

  pub says_lowest : IsPlain net.graph → (write read : Side) (n : ℕ) (value : _) (t : Taking) → 2 ≤ side_width (design_of net domains) write → IsTaking net t
      → IsWordBit (design_of net domains) (next_tree net) write read n value t.bit → SaysLowest net write.reg.count t
  says_lowest plain write read n value t wide is word =
      let w = side_width (design_of net domains) write in
      let said = rules.Is (Some (Var write.reg.count w, 0)) (bit_at n 0) in
      let one = word.index said (low_in write.reg.count w (w - 1) n 0 (omega arith)) in
      let found = from_map (term_of net.graph) t.taken.under one.0 (is.1.2.all one.0 one.1) in
      (found.0, found.1, said_bit plain found.0 (is.1.2.within found.0 found.1) write.reg.count w (bit_at n 0) (found.2 ∙ one_is (Some (Var write.reg.count w, 0)) (bit_at n 0) one.0 one.2))

  pub listed_register : (b : Bit) → is_register_bit net b ≡ true → Contains (bits_of_registers net.graph.signals net.regs) b
  listed_register b h =
      let both = and_parts (is_some (next_cell net.regs b.sig)) (is_within net b) h in
      in_bits net.graph.signals b (ltb-true b.at (bit_count net.graph.signals b.sig) both.1) net.regs both.0

  -- what a register bit takes is listed
  pub taking_of : (ts : List Taking) → AreTakings net ts → (b : Bit) → is_register_bit net b ≡ true → (t : Taking) × Contains ts t × (t.bit ≡ b)
  taking_of ts are b h = from_map (λ (t : Taking). t.bit) ts b (subst (λ (bs : List Bit). Contains bs b) (sym are.bits) (listed_register b h))

  module _ (plain : IsPlain net.graph) (syncs : List Sync) (grays : List GrayReg) (i : Index) (is : IsIndex net domains syncs grays i)
      (write read : Side) (counter : IsCounter i.sides.items write.reg.count) (wide : 2 ≤ side_width (design_of net domains) write) where
    word_found : (b : Bit) → IsWord (design_of net domains) (next_tree net) write read b → (t : Taking) × Contains i.takings t × (t.bit ≡ b) × SaysLowest net write.reg.count t
    word_found b (n, value, l, word) =
        let t = taking_of i.takings is.takings b word.register in
        (t.0, t.1, t.2, says_lowest plain write read n value t.0 wide (is.takings.each t.0 t.1) (subst (IsWordBit (design_of net domains) (next_tree net) write read n value) (sym t.2) word))

    -- the words that were gathered are all
    pub all_words : (words : List Bit) → AreGathered (IsWordAt net domains i write read) (places_at i.takings_by_count (lowest write.reg.count)) words → AreWords net domains write read words
    all_words words h b = (
      λ k. let g = (h b).0 k in subst (IsWord (design_of net domains) (next_tree net) write read) (sym g.2.2) g.2.3,
      λ k.
          let t = word_found b k in
          let at = in_slice i.takings t.0 t.1 in
          (h b).1 (t.1.0, (is.takings_at write.reg.count counter t.1.0).1 (t.0, at, t.3), (t.0, at, sym t.2, subst (IsWord (design_of net domains) (next_tree net) write read) (sym t.2) k)),
    )

-- The words for which register bits are word bits, one more at a time.
use Rattle.std.proofs.Common.{◌≡◌, ◌∙◌, sym, ap, subst, refl, ℕ, Bool, true, false, cond, Some, None, option_map, List}
use Rattle.std.specs.HashMap as hash
use Rattle.std.specs.HashMap.{HashMap}
use Rattle.std.specs.Map.{lookup}
use Rattle.cdc_base.specs.declared.bit.Bit.{Bit}
use Rattle.cell_graph.specs.declared.net.Net.{Net}
use Rattle.cell_graph.specs.Origin.{TreeBit}
use Rattle.cell_graph.specs.Unfolded.{bit_of}
use Rattle.domains.specs.declared.Domains.{Domains}
use Rattle.cdc_model.specs.Nets.{design_of, next_tree}
use Rattle.fifo_laws.specs.Sides.{Side}
use Rattle.fifo_laws.specs.Words.{IsWord, IsWordBit}
use Rattle.fifo_ways.specs.Marked.{same_bit}
use Rattle.fifo_ways.proofs.Sames.{same_bit-is}
use Rattle.fifo_parts.specs.declared.words.Taking.{Taking}
use Rattle.fifo_parts.specs.Words.{IsTaking, IsWordBitOf, IsWordOf}
use Rattle.fifo_scheme.specs.Met.{AreNumbers}

module _ (net : Net) (domains : Domains) (write read : Side) where
  pub no_numbers : {S : Type 0} (m : HashMap Bit ℕ S) → hash.IsEmpty m → AreNumbers net domains write read m
  no_numbers m none b n at =
      let both : None ≡ Some n = sym (ap (λ (es : List (Bit × ℕ)). lookup (same_bit b) es) none) ∙ at in
      cc

  pub more_numbers : {S : Type 0} (old new : HashMap Bit ℕ S) (t : Taking) (n : ℕ) → AreNumbers net domains write read old
      → IsWordBitOf net domains write read n t
      → ((b : Bit) → hash.get same_bit new b ≡ cond (same_bit t.bit b) (Some n) (hash.get same_bit old b)) → AreNumbers net domains write read new
  more_numbers old new t n h word got b k at = go (same_bit t.bit b) refl (sym (got b) ∙ at)
    where
      go : (v : Bool) → same_bit t.bit b ≡ v → cond v (Some n) (hash.get same_bit old b) ≡ Some k
          → (value : TreeBit) × IsWordBit (design_of net domains) (next_tree net) write read k value b
      go true e f =
          let one : n ≡ k = cc in (
            option_map (bit_of net.graph) t.taken.node,
            subst (λ (m : ℕ). IsWordBit (design_of net domains) (next_tree net) write read m (option_map (bit_of net.graph) t.taken.node) b) one
                (subst (λ (x : Bit). IsWordBit (design_of net domains) (next_tree net) write read n (option_map (bit_of net.graph) t.taken.node) x)
                (same_bit-is t.bit b e) word),
          )
      go false e f = h b k f

  -- the register bit is a word bit for its number
  pub by_number : (t : Taking) → IsTaking net t → (n : ℕ) (value : TreeBit) → IsWordBit (design_of net domains) (next_tree net) write read n value t.bit
      → IsWordBitOf net domains write read n t
  by_number t is n value h =
      subst (λ (x : TreeBit). IsWordBit (design_of net domains) (next_tree net) write read n x t.bit) (sym h.takes ∙ is.1.0) h

  pub word_by : (t : Taking) (n : ℕ) → IsWordOf net domains write read t (Some n) → IsWord (design_of net domains) (next_tree net) write read t.bit
  word_by t n h = (n, option_map (bit_of net.graph) t.taken.node, h.0, h.1)

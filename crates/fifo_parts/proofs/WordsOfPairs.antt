-- Word bits of the FIFO of a pair of sides.
use Rattle.std.proofs.Common.{◌≡◌, ◌∙◌, ◌⊎◌, sym, ap, subst, arith, ℕ, ◌-◌, ◌^◌, ◌<◌, ◌≤◌, Bool, true, false, cond, Some, None, List, Contains}
use Rattle.std.specs.Prelude.{is_some, slice_get}
use Rattle.std.proofs.lemmas.Bool.{and_parts}
use Rattle.cell_graph.specs.declared.net.Net.{Net}
use Rattle.cell_graph.specs.Cells.{signal_width}
use Rattle.cell_graph.specs.Origin.{TreeBit}
use Rattle.cell_graph.specs.Tree.{all_below, number}
use Rattle.cell_graph.proofs.Words.{number-lt}
use Rattle.cofactor.specs.Shown.{Shown as Rows}
use Rattle.domains.specs.declared.Domains.{Domains}
use Rattle.domains.specs.Assignment.{clock_of}
use Rattle.cdc_model.specs.declared.scheme.GrayReg.{GrayReg}
use Rattle.cdc_model.specs.Nets.{bit_count, design_of, is_within, next_cell, next_tree}
use Rattle.fifo_terms.specs.Takes.{taken}
use Rattle.fifo_terms.specs.Terms as rules
use Rattle.fifo_terms.specs.Terms.{HasTerm}
use Rattle.fifo_laws.specs.Sides.{Side}
use Rattle.fifo_laws.specs.Words.{depth_of, index_terms, IsWordBit, low_bits}
use Rattle.gray_pointer.specs.Words.{IsPlain}
use Rattle.fifo_nodes.specs.Terms.{AreTerms, AreTermsIn}
use Rattle.fifo_parts.specs.declared.pair.Pair.{Pair}
use Rattle.fifo_parts.specs.declared.words.Taking.{Taking}
use Rattle.fifo_parts.specs.Sides.{IsSideAlone}
use Rattle.fifo_parts.specs.Tellers.{IsPair, IsShown}
use Rattle.fifo_parts.specs.Words.{AreAllowed, HaveCommon, is_told, IsTaking, IsWordBitOf, says_all, word_bit, word_said}
use Rattle.fifo_parts.proofs.CodeNodes.{wide_signal}
use Rattle.fifo_parts.proofs.WordBits.{Allowed, allowed_is, common_is, full_within, Guarded, Says, says_is, word_allowed, word_is, word_says}

number_of_some : (b : Bool) (n k : ℕ) → cond b (Some n) None ≡ Some k → n ≡ k
number_of_some true n k e = cc
number_of_some false n k e = cc

module _ {net : Net} {domains : Domains} {table : Rows} {p : Pair} {write read : Side} (shown : IsShown net table) (is : IsPair net domains p write read)
    (t : Taking) (is_taking : IsTaking net t) where
  abbrev count : ℕ
  count = p.write.side.now.reg.count

  abbrev w : ℕ
  w = p.write.side.now.width

  abbrev ts : List rules.Term
  ts = (taken t.bit (next_tree net t.bit.sig) t.bit.at).under

  pub plain : IsPlain net.graph
  plain = record { well = shown.is_net.graph; shared = shown.is_shared }

  alone : IsSideAlone net domains p.write.side.now write.under
  alone = is.write_tells.side.alone

  wide : signal_width net.graph.signals count ≡ w
  wide = wide_signal (slice_get net.graph.signals count) w (let l = alone.wide.0 in let k : 1 ≤ w = omega arith in k) alone.count_width

  found : AreTerms net.graph ts t.taken.under
  found = is_taking.1.2

  pub found_within : AreTermsIn net.graph t.taken.under
  found_within = found.within

  pub pushed_within : AreTermsIn net.graph p.write.side.now.under
  pushed_within = alone.under.within

  pub full_in : AreTermsIn net.graph p.full
  full_in = full_within net.graph plain count w wide ts write.under t.taken.under p.write.side.now.under found alone.under (design_of net domains)
      (next_tree net) write read p.full is.full

  pub narrow : w ≤ 64
  narrow = let l = alone.wide.1 in omega arith

  reg : write.reg ≡ p.write.side.now.reg
  reg = is.write_tells.side.reg

  same_index : (n : ℕ) → index_terms (design_of net domains) write n ≡ low_bits count w (w - 1) n
  same_index n = ap (λ (r : GrayReg). low_bits r.count (bit_count net.graph.signals r.count) (bit_count net.graph.signals r.count - 1) n) reg
      ∙ ap (λ k. low_bits count k (k - 1) n) alone.count_width

  same_depth : depth_of (design_of net domains) write ≡ 2 ^ (w - 1)
  same_depth = ap (λ (r : GrayReg). 2 ^ (bit_count net.graph.signals r.count - 1)) reg ∙ ap (λ k. 2 ^ (k - 1)) alone.count_width

  within : is_within net t.bit ≡ true
  within = (and_parts (is_some (next_cell net.regs t.bit.sig)) (is_within net t.bit) is_taking.0).1

  whole : (n : ℕ) → clock_of domains t.bit ≡ Some p.write.side.now.clock → Says (low_bits count w (w - 1) n) ts
      → Allowed (low_bits count w (w - 1) n) ts write.under
      → Guarded (design_of net domains) (next_tree net) write read ts write.under → IsWordBitOf net domains write read n t
  whole n clock says allowed guarded = record {
    register = is_taking.0;
    clock = ap (λ b. cond b (clock_of domains t.bit) None) within ∙ clock ∙ ap Some (sym is.write_tells.side.clock);
    takes = is_taking.1.0;
    index = λ x h. says x (subst (λ l. Contains l x) (same_index n) h);
    others = λ x h. subst (λ l. HasTerm l x ⊎ HasTerm write.under x) (sym (same_index n)) (allowed x h);
    guarded = guarded;
  }

  pub word_bit_is : (n : ℕ) → clock_of domains t.bit ≡ Some p.write.side.now.clock → says_all net.graph count w t.taken.under n ≡ true
      → AreAllowed net.graph count w n p.write.side.now.under t.taken.under
      → HaveCommon net.graph t.taken.under p.full → IsWordBitOf net domains write read n t
  word_bit_is n clock says allowed common = whole n clock
      ((says_is net.graph plain count w wide ts write.under t.taken.under p.write.side.now.under found alone.under n).0 says)
      ((allowed_is net.graph plain count w wide ts write.under t.taken.under p.write.side.now.under found alone.under n).0 allowed)
      ((common_is net.graph plain count w wide ts write.under t.taken.under p.write.side.now.under found alone.under (design_of net domains)
      (next_tree net) write read p.full is.full).0 common)

  module _ (n : ℕ) (value : TreeBit) (h : IsWordBit (design_of net domains) (next_tree net) write read n value t.bit) where
    index_said : Says (low_bits count w (w - 1) n) ts
    index_said x i = h.index x (subst (λ l. Contains l x) (sym (same_index n)) i)

    others_allowed : Allowed (low_bits count w (w - 1) n) ts write.under
    others_allowed x i = subst (λ l. HasTerm l x ⊎ HasTerm write.under x) (same_index n) (h.others x i)

    pub all_said : says_all net.graph count w t.taken.under n ≡ true
    all_said = (says_is net.graph plain count w wide ts write.under t.taken.under p.write.side.now.under found alone.under n).1 index_said

    pub all_allowed : AreAllowed net.graph count w n p.write.side.now.under t.taken.under
    all_allowed = (allowed_is net.graph plain count w wide ts write.under t.taken.under p.write.side.now.under found alone.under n).1 others_allowed

    pub have_common : HaveCommon net.graph t.taken.under p.full
    have_common = (common_is net.graph plain count w wide ts write.under t.taken.under p.write.side.now.under found alone.under
        (design_of net domains) (next_tree net) write read p.full is.full).1 h.guarded

    pub on_clock : clock_of domains t.bit ≡ Some p.write.side.now.clock
    on_clock = sym (ap (λ b. cond b (clock_of domains t.bit) None) within) ∙ h.clock ∙ ap Some is.write_tells.side.clock

    pub word_found : word_said net.graph count w t.taken.under p.write.side.now.under ≡ Some
        (number (word_bit net.graph count w t.taken.under p.write.side.now.under) (w - 1))
    word_found = word_is net.graph plain count w wide ts write.under t.taken.under p.write.side.now.under found alone.under n index_said
        others_allowed

    pub word_fits : IsWordBitOf net domains write read (number (word_bit net.graph count w t.taken.under p.write.side.now.under) (w - 1)) t
    word_fits = whole (number (word_bit net.graph count w t.taken.under p.write.side.now.under) (w - 1)) on_clock
        (word_says net.graph plain count w wide ts write.under t.taken.under p.write.side.now.under found alone.under n index_said others_allowed)
        (word_allowed net.graph plain count w wide ts write.under t.taken.under p.write.side.now.under found alone.under n index_said others_allowed)
        h.guarded

  pub word_small : (k : ℕ) → word_said net.graph count w t.taken.under p.write.side.now.under ≡ Some k → k < depth_of (design_of net domains) write
  word_small k e =
      let same = number_of_some (all_below (is_told net.graph count w t.taken.under) (w - 1))
      (number (word_bit net.graph count w t.taken.under p.write.side.now.under) (w - 1)) k e in
      let lt = number-lt (word_bit net.graph count w t.taken.under p.write.side.now.under) (w - 1) in
      let d = same_depth in
      subst (λ x. k < x) (sym d) (subst (λ x. x < 2 ^ (w - 1)) same lt)

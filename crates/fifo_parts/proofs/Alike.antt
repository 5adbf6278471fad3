-- Register bits of one signal that take their nodes under the same terms are word bits for the same words.
use Rattle.std.proofs.Common.{rules, ◌≡◌, ◌∙◌, sym, ap, subst, ℕ, true, Option, Some, None, option_map, List, Contains}
use Rattle.std.specs.Cmp.Rules.{comparing}
use Rattle.cdc_base.specs.declared.bit.Bit.{Bit}
use Rattle.cell_graph.specs.declared.net.Net.{Net}
use Rattle.cell_graph.specs.Origin.{TreeBit}
use Rattle.cell_graph.specs.Unfolded.{bit_of}
use Rattle.cofactor.specs.Shown.{Shown as Rows}
use Rattle.domains.specs.declared.Domains.{Domains}
use Rattle.domains.specs.Assignment.{clock_of}
use Rattle.cdc_model.specs.Nets.{design_of, next_tree}
use Rattle.fifo_terms.specs.Takes.{taken}
use Rattle.fifo_terms.specs.Terms as rules
use Rattle.fifo_laws.specs.Sides.{Side}
use Rattle.fifo_laws.specs.Words.{IsWordBit}
use Rattle.fifo_nodes.specs.declared.term.Term.{Term}
use Rattle.fifo_nodes.specs.contracts.term.TermPartialEq.TheImpl as equality
use Rattle.fifo_nodes.specs.Terms.{terms_of}
use Rattle.fifo_parts.specs.declared.words.Taking.{Taking}
use Rattle.fifo_parts.specs.Tellers.{IsShown}
use Rattle.fifo_parts.specs.Words.{IsTaking, IsWordOf}
use Rattle.fifo_parts.proofs.Tests.{register_clock}

module _ (net : Net) (table : Rows) (shown : IsShown net table) (domains : Domains) (s t : Taking) (is_s : IsTaking net s) (is_t : IsTaking net t)
    (sig : s.bit.sig ≡ t.bit.sig) (under : s.taken.under ≡ t.taken.under) where
  abbrev under_of : Taking → List rules.Term
  under_of k = (taken k.bit (next_tree net k.bit.sig) k.bit.at).under

  over : (u : rules.Term) → Contains (under_of s) u → Contains (under_of t) u
  over u i = is_t.1.2.only u (subst (λ (ts : List Term). Contains (terms_of net.graph ts) u) under (is_s.1.2.all u i))

  back : (u : rules.Term) → Contains (under_of t) u → Contains (under_of s) u
  back u i = is_s.1.2.only u (subst (λ (ts : List Term). Contains (terms_of net.graph ts) u) (sym under) (is_t.1.2.all u i))

  one_clock : (design_of net domains).clock t.bit ≡ (design_of net domains).clock s.bit
  one_clock = register_clock net table shown domains t.bit is_t.0
      ∙ ap (λ (k : ℕ). clock_of domains (let b : Bit = record { sig = k; at = t.bit.at } in b)) (sym sig)
      ∙ sym (register_clock net table shown domains s.bit is_s.0)

  pub same_word : (write read : Side) (n : ℕ) (value : TreeBit) → IsWordBit (design_of net domains) (next_tree net) write read n value s.bit
      → IsWordBit (design_of net domains) (next_tree net) write read n (option_map (bit_of net.graph) t.taken.node) t.bit
  same_word write read n value h = record {
    register = is_t.0;
    clock = one_clock ∙ h.clock;
    takes = is_t.1.0;
    index = λ x i. let k = h.index x i in (k.0, over k.0 k.1, k.2);
    others = λ x i. h.others x (back x i);
    guarded = (h.guarded.0, over h.guarded.0 h.guarded.1, h.guarded.2, h.guarded.3);
  }

-- what is told of the one bit is told of the other
pub alike_word : (net : Net) (table : Rows) → IsShown net table → (domains : Domains) (write read : Side) (s t : Taking) → IsTaking net s → IsTaking net t
    → s.bit.sig ≡ t.bit.sig → s.taken.under ≡ t.taken.under → (o : Option ℕ) → IsWordOf net domains write read s o → IsWordOf net domains write read t o
alike_word net table shown domains write read s t is_s is_t sig under None h = λ w.
    h (w.0, option_map (bit_of net.graph) s.taken.node, w.2, same_word net table shown domains t s is_t is_s (sym sig) (sym under) write read w.0 w.1 w.3)
alike_word net table shown domains write read s t is_s is_t sig under (Some n) h =
    (h.0, same_word net table shown domains s t is_s is_t sig under write read n (option_map (bit_of net.graph) s.taken.node) h.1)

-- equal terms are one
pub same_term : (s t : Term) → equality.ghosts.eq s t ≡ true → s ≡ t
same_term s t h = search (comparing, rules)

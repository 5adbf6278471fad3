-- Sides by themselves, by what was found of them.
use Rattle.std.proofs.Common.{◌≡◌, ◌∙◌, sym, ap, subst, arith, ℕ, ◌<◌, length, Option, Some, List}
use Rattle.std.specs.Prelude.{◌≤◌, slice_get}
use Rattle.cell_graph.specs.declared.cell.CellId.{CellId}
use Rattle.cell_graph.specs.declared.cell.Node.{Node}
use Rattle.cell_graph.specs.declared.net.Net.{Net}
use Rattle.cell_graph.specs.Cells.{Cells, cell_width, signal_width}
use Rattle.cell_graph.specs.Unfolded.{tree_of}
use Rattle.domains.specs.declared.Domains.{Domains}
use Rattle.cdc_model.specs.declared.scheme.GrayReg.{GrayReg}
use Rattle.cdc_model.specs.Nets.{HasNextCells, bit_count, next_cell, next_tree, tree_or_zero}
use Rattle.cdc_model.specs.Word.{origins, own_word}
use Rattle.fifo_terms.specs.Codes as rules
use Rattle.fifo_terms.specs.Counts.{CountsUnder}
use Rattle.fifo_terms.specs.Terms.{Term}
use Rattle.fifo_laws.specs.Sides.{held_in}
use Rattle.gray_pointer.specs.Words.{HasWord, word_of}
use Rattle.fifo_nodes.specs.declared.codes.Code.{Code}
use Rattle.fifo_nodes.specs.declared.codes.Moment.{Moment}
use Rattle.fifo_nodes.specs.declared.codes.Moment.TheVariants.{Now}
use Rattle.fifo_nodes.specs.declared.term.Term.{Term as Found}
use Rattle.fifo_nodes.specs.Terms.{AreTerms}
use Rattle.fifo_parts.specs.declared.side.Outline.{Outline}
use Rattle.fifo_parts.specs.Sides.{AreNodes, IsNextCode, IsNowCode, IsOutline, IsSideAlone}
use Rattle.fifo_parts.proofs.CodeNodes.{wide_signal}

module _ (g : Cells) (reg : GrayReg) (w : ℕ) (wide : 2 ≤ w) (count : bit_count g.signals reg.count ≡ w) where
  signal : signal_width g.signals reg.count ≡ w
  signal = wide_signal (slice_get g.signals reg.count) w (let l : 1 ≤ w = omega arith in l) count

  code : List (Option Node) → Moment → Code
  code held moment = record { count = reg.count; width = w; held = held; moment = moment }

  pub now_code : (held : List (Option Node)) → AreNodes g held (held_in reg.shape (own_word reg.gray w))
      → IsNowCode g reg w (record { count = reg.count; width = w; held = held; moment = Now })
  now_code held (are, within) = (
    ap (λ xs. let k : rules.Code = record { b = reg.count; w = w; held = xs; moment = rules.Now } in k) are,
    record { wide = wide; signal = signal; held = within; moment = tt },
  )

module _ (net : Net) (domains : Domains) (reg : GrayReg) (o : Outline) (is : IsOutline net domains reg o) where
  two : 2 ≤ o.width
  two = is.wide.0

  pub count_signal : signal_width net.graph.signals reg.count ≡ o.width
  count_signal = signal net.graph reg o.width two is.count_width

  tree_next : (sig : ℕ) (c : CellId) → next_cell net.regs sig ≡ Some c → next_tree net sig ≡ tree_of net.graph c
  tree_next sig c e = ap (tree_or_zero net.graph) e

  pub count_tree : next_tree net reg.count ≡ tree_of net.graph o.next
  count_tree = tree_next reg.count o.next is.next

  pub gray_tree : next_tree net reg.gray ≡ tree_of net.graph o.gray_next
  gray_tree = tree_next reg.gray o.gray_next is.gray_next

  pub count_word : HasNextCells net → HasWord net.graph o.next o.width
  count_word has = let h = has reg.count o.next is.next in let a = h.1 in let b = is.count_width in let c = two in (h.0, (omega arith), (omega arith))

  pub gray_word : HasNextCells net → (o.gray_next.0 < length net.graph.cells) × (o.width ≤ cell_width net.graph o.gray_next)
  gray_word has = let h = has reg.gray o.gray_next is.gray_next in let a = h.1 in let b = is.gray_width in (h.0, (omega arith))

  pub side_found : (ts : List Term) (under : List Found) (now next : Code) → CountsUnder reg.count o.width (word_of net.graph o.next o.width) ts
      → AreTerms net.graph ts under
      → IsNowCode net.graph reg o.width now → IsNextCode net.graph reg o.width (tree_of net.graph o.gray_next) under next
      → IsSideAlone net domains (record { reg = reg; width = o.width; clock = o.clock; under = under; now = now; next = next }) ts
  side_found ts under now next counts are is_now is_next = record {
    wide = is.wide;
    count_width = is.count_width;
    gray_width = is.gray_width;
    clock = is.clock;
    settles = is.settles;
    start = is.start;
    counts = subst (λ t. CountsUnder reg.count o.width (origins t 0 o.width) ts) (sym count_tree) counts;
    under = are;
    now = is_now;
    next = subst (λ t. IsNextCode net.graph reg o.width t under next) (sym gray_tree) is_next;
  }

  -- a word that counts by another outline counts by this one
  pub counts_same : (p : Outline) → IsOutline net domains reg p → (ts : List Term)
      → CountsUnder reg.count p.width (origins (next_tree net reg.count) 0 p.width) ts
      → CountsUnder reg.count o.width (word_of net.graph o.next o.width) ts
  counts_same p other ts counts =
      let w : p.width ≡ o.width = sym other.count_width ∙ is.count_width in
      subst (λ t. CountsUnder reg.count o.width (origins t 0 o.width) ts) count_tree
      (subst (λ k. CountsUnder reg.count k (origins (next_tree net reg.count) 0 k) ts) w counts)

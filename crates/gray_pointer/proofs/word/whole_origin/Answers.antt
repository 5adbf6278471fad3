-- All bits are those of the cell of the first, or the word is no cell's.
use Rattle.std.proofs.Common.{◌≡◌, ◌∙◌, arith, sym, ap, subst, inl, inr, Some, option_map, ◌<◌, true, false}
use Rattle.cell_graph.specs.Cells.{cell_width}
use Rattle.cell_graph.specs.Origin.{origin}
use Rattle.cell_graph.specs.Unfolded.{bit_of, tree_of}
use Rattle.gray_pointer.specs.Words.{IsWhole}
use Rattle.gray_pointer.proofs.Bits.{first_or_later}
use Rattle.gray_pointer.proofs.Wholes.{word_node, in_graph, no_first, no_whole, whole_found}
use Rattle.gray_pointer.proofs.word.whole_origin.Goals as goal

pub returns-in_err-whole : goal.returns-in_err-whole
returns-in_err-whole c = λ plain has.
    let g = c.args.net.now.graph in
    let id = c.args.cell in
    let w = c.args.width in
    subst (IsWhole g id w) (sym c.from_residual.ensures)
    (no_first g plain id w has (c.origin.ensures.exact plain.well (word_node g id w 0 has has.1) ∙ ap (option_map (bit_of g)) c.in_err-whole.was))

pub returns-then-not-are_same : goal.returns-then-not-are_same
returns-then-not-are_same c = λ plain has.
    let g = c.args.net.now.graph in
    let id = c.args.cell in
    let w = c.args.width in
    let m = c.in_ok-whole.field-0 in
    let lt : c.loop-at.at < w = c.loop-at-test.true in
    no_whole g plain id w has m
    (c.origin.ensures.exact plain.well (word_node g id w 0 has has.1) ∙ ap (option_map (bit_of g)) c.in_ok-whole.was)
    (c.origin.ensures.within plain.well (word_node g id w 0 has has.1) m c.in_ok-whole.was).0
    c.loop-at.at lt c.origin-in-loop-at.result (c.origin-in-loop-at.ensures.exact plain.well (word_node g id w c.loop-at.at has lt))
    (in_graph g c.origin-in-loop-at.result (λ n e. (c.origin-in-loop-at.ensures.within plain.well (word_node g id w c.loop-at.at has lt) n e).0))
    (λ e. let t : true ≡ false = sym (c.are_same.ensures.1 e) ∙ c.if-not-are_same.true in cc)

pub returns : goal.returns
returns c = λ plain has.
    let g = c.args.net.now.graph in
    let id = c.args.cell in
    let w = c.args.width in
    let m = c.in_ok-whole.field-0 in
    let is = c.origin.ensures.within plain.well (word_node g id w 0 has has.1) m c.in_ok-whole.was in
    whole_found g plain id w has m.cell is.0.0 is.1 (λ i l. c.loop-at.invariant plain has i (let e = c.loop-at-test.false in omega arith))

pub loop-at-preserved : goal.loop-at-preserved
loop-at-preserved c = λ plain has i l.
    let g = c.args.net.now.graph in
    let id = c.args.cell in
    let w = c.args.width in
    let whole = c.in_ok-whole.field-0.cell in
    let at = c.loop-at.at in
    let lt : at < w = c.loop-at-test.true in
    let node = word_node g id w at has lt in
    let same = c.are_same.ensures.0 c.if-not-are_same.false in
    elim (first_or_later i at (omega arith)) [
      | inl e ↦ subst (λ k. (origin (tree_of g id) k ≡ Some (tree_of g whole, k)) × (k < cell_width g whole)) (sym e) (
        c.origin-in-loop-at.ensures.exact plain.well node ∙ ap (option_map (bit_of g)) same,
        (c.origin-in-loop-at.ensures.within plain.well node (record { cell = whole; at = at }) same).0.1,
      )
      | inr k ↦ c.loop-at.invariant plain has i (omega arith)
    ]

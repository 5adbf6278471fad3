-- Below the highest bit a pair of neighbours, at the highest itself or beside a zero.
use Rattle.std.proofs.Common.{◌≡◌, ◌<◌, ◌∙◌, sym, inl, inr, arith, suc, true, false, option_map}
use Rattle.cell_graph.specs.Unfolded.{bit_of}
use Rattle.fifo_nodes.specs.Codes.{word_tree}
use Rattle.fifo_nodes.proofs.CodeWords.{fits_pair, fits_top}
use Rattle.fifo_nodes.proofs.codes.fits.Goals as goal

pub returns-then-saturating_add-width : goal.returns-then-saturating_add-width
returns-then-saturating_add-width c = λ plain shown word inside low.
    let g = c.args.net.now.graph in
    let sum = c.saturating_add.ensures in
    let test = c.if-saturating_add-width.true in
    let fits = c.ranges.width.fits in
    let lt : suc c.args.at < c.args.width = omega arith in
    let both = fits_pair (word_tree g c.args.word) (option_map (bit_of g) c.args.node) c.args.width c.args.at lt in
    let pair = c.is_pair.ensures plain word inside (omega arith) in
    (λ t. both.1 (pair.0 t), λ h. pair.1 (both.0 h))

pub returns-then-has : goal.returns-then-has
returns-then-has c = λ plain shown word inside low.
    let g = c.args.net.now.graph in
    let sum = c.saturating_add.ensures in
    let test = c.if-saturating_add-width.false in
    let fits = c.ranges.width.fits in
    let top : suc c.args.at ≡ c.args.width = omega arith in
    let both = fits_top (word_tree g c.args.word) (option_map (bit_of g) c.args.node) c.args.width c.args.at top in
    (λ t. both.1 (inl ((c.has.ensures plain word inside).0 t)), λ h. c.if-has.true)

pub returns-else-has : goal.returns-else-has
returns-else-has c = λ plain shown word inside low.
    let g = c.args.net.now.graph in
    let sum = c.saturating_add.ensures in
    let test = c.if-saturating_add-width.false in
    let fits = c.ranges.width.fits in
    let top : suc c.args.at ≡ c.args.width = omega arith in
    let both = fits_top (word_tree g c.args.word) (option_map (bit_of g) c.args.node) c.args.width c.args.at top in
    let beside = c.is_top.ensures plain shown word inside in (
      λ t. both.1 (inr (beside.0 t)),
      λ h. elim (both.0 h) [
        | inl e ↦ let t : true ≡ false = sym ((c.has.ensures plain word inside).1 e) ∙ c.if-has.false in cc
        | inr k ↦ beside.1 k
      ],
    )

-- All bits but the highest are the exclusive or of neighbours, and the highest is the highest.
use Rattle.std.proofs.Common.{◌≡◌, ◌∙◌, sym, subst, inl, inr, true, false, arith, suc, ◌<◌, ℕ}
use Rattle.cell_graph.specs.Origin.{origin}
use Rattle.cell_graph.specs.Unfolded.{tree_of}
use Rattle.cdc_model.specs.Word.{IsXorOf}
use Rattle.gray_pointer.specs.Words.{coded_bit}
use Rattle.gray_pointer.proofs.Bits.{first_or_later}
use Rattle.gray_pointer.proofs.Codes.{gray_word, gray_pair, gray_top}
use Rattle.gray_pointer.proofs.word.is_gray_code.Goals as goal

pub returns-then-not-is_code_bit : goal.returns-then-not-is_code_bit
returns-then-not-is_code_bit c = λ plain shown has coded.
    let g = c.args.net.now.graph in
    let w = c.args.width in
    let top = c.saturating_sub-top.result in
    let is = c.saturating_sub-top.ensures in
    let one = has.1 in
    let n : w ≡ suc top = omega arith in
    let lt : c.loop-at.at < top = c.loop-at-test.true in
    let fits = c.ranges.width.fits in
    (λ t. cc, λ h. let t : true ≡ false = sym ((c.is_code_bit.ensures w (omega arith) plain has coded (omega arith)).1 (gray_pair g c.args.cell c.args.word w top n h c.loop-at.at lt)) ∙ c.if-not-is_code_bit.true in cc)

pub loop-at-preserved : goal.loop-at-preserved
loop-at-preserved c = λ plain shown has coded i l.
    let g = c.args.net.now.graph in
    let w = c.args.width in
    let top = c.saturating_sub-top.result in
    let is = c.saturating_sub-top.ensures in
    let one = has.1 in
    let at = c.loop-at.at in
    let lt : at < top = c.loop-at-test.true in
    let fits = c.ranges.width.fits in
    elim (first_or_later i at (omega arith)) [
      | inl e ↦ subst (λ (k : ℕ). IsXorOf (origin (tree_of g c.args.cell) k) (coded_bit g c.args.word w k) (coded_bit g c.args.word w (suc k))) (sym e)
          ((c.is_code_bit.ensures w (omega arith) plain has coded (omega arith)).0 c.if-not-is_code_bit.false)
      | inr k ↦ c.loop-at.invariant plain shown has coded i (omega arith)
    ]

pub returns : goal.returns
returns c = λ plain shown has coded.
    let g = c.args.net.now.graph in
    let w = c.args.width in
    let top = c.saturating_sub-top.result in
    let is = c.saturating_sub-top.ensures in
    let one = has.1 in
    let n : w ≡ suc top = omega arith in
    let iff = c.is_top_bit.ensures w plain shown has coded (omega arith) in (
      λ t. gray_word g c.args.cell c.args.word w top n (λ j l. c.loop-at.invariant plain shown has coded j (let e = c.loop-at-test.false in omega arith)) (iff.0 t),
      λ h. iff.1 (gray_top g c.args.cell c.args.word w top n h),
    )

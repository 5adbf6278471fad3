-- The bits that one bit more of the cell reads are noted.
use Rattle.std.proofs.Common.{◌≡◌, ◌∙◌, sym, ap, subst, arith, cond, []}
use Rattle.cell_graph.specs.Cofactor.{reads}
use Rattle.cell_graph.specs.Tree.{any_below}
use Rattle.cell_graph.specs.Unfolded.{tree_of}
use Rattle.cell_graph.proofs.Trees.{width-tree_of}
use Rattle.cdc_model.specs.declared.readers.Reader.TheVariants.{Others}
use Rattle.cdc_model.specs.Readers.{HasPlace, reader_at, noted_in}
use Rattle.cdc_model.specs.Tables.{ShowsNet}
use Rattle.cdc_model.proofs.ReadBits.{shows-below}
use Rattle.cdc_model.proofs.Noted.{word_more}
use Rattle.cdc_model.proofs.readers.Readers.note_word.Goals as goal

pub loop-at-preserved : goal.loop-at-preserved
loop-at-preserved c = record {
  same = c.in_ok-reads.ensures.unchanged ∙ c.loop-at.invariant.same;
  spans = c.note_all.ensures.spans ∙ c.loop-at.invariant.spans;
  noted = λ is shown lt b h.
      let net = c.args.net.now in
      let o = c.args.output in
      word_more (λ i. reads [] (tree_of net.graph o) i b) c.loop-at.at b c.in_ok-reads.reads (reader_at c.args.self.now b) (reader_at c.loop-at.self b) (reader_at c.note_all.new.self b)
      (c.in_ok-reads.ensures.exact [] is.graph (lt, (let l = c.loop-at-test.true in let w = c.width-at-end.ensures in omega arith))
      (shows-below net is [] c.loop-at.table (subst (ShowsNet net []) (sym c.loop-at.invariant.same) shown) o lt) b)
      (c.note_all.ensures.noted b (subst (λ ss. HasPlace ss b) (sym c.loop-at.invariant.spans) h) ∙ ap (λ xs. noted_in b xs Others (reader_at c.loop-at.self b)) c.as_slice.ensures)
      (c.loop-at.invariant.noted is shown lt b h);
}

pub returns-clause-noted : goal.returns-clause-noted
returns-clause-noted c = λ is shown lt b h.
    let net = c.args.net.now in
    let o = c.args.output in
    let w = width-tree_of net.graph o in
    let e : c.loop-at.at ≡ _ = (let l = c.loop-at-test.false in let m = c.loop-at.auto.at-end in let n = c.width-at-end.ensures in let k : c.loop-at.at ≡ c.width-at-end.result = omega arith in k ∙ n ∙ w) in
    c.loop-at.invariant.noted is shown lt b h ∙ ap (λ n. cond (any_below (λ i. reads [] (tree_of net.graph o) i b) n) Others (reader_at c.args.self.now b)) e

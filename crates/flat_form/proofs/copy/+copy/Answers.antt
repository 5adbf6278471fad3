use Rattle.std.proofs.Common.{◌≡◌, ℕ, List, [], ◌∷◌, ◌++◌, sym, ap, ◌∙◌, arith}
use Rattle.std.proofs.lemmas.Result.{IfOk-weaker}
use Rattle.flat_form.specs.declared.flat.FExpr.TheVariants as e
use Rattle.flat_form.specs.declared.copy.Choice.{Choice}
use Rattle.flat_meaning.specs.Flat as f
use Rattle.flat_form.specs.View.{expr_of}
use Rattle.flat_form.specs.Sizes.{kept_of}
use Rattle.flat_form.specs.Copies.{wrapped, kept_choice, kept_wrapped}
use Rattle.flat_form.proofs.Folds.{expr_of-Choose, kept_of-Choose}
use Rattle.flat_form.proofs.Copies.{wrapped_push, kept_push, AreSame, boxed-same, listed-same, form-same, at-same, unary-same, binary-same, gate-same, join-same, repeat-same}
use Rattle.flat_form.proofs.Depths.{other-smaller}
use Rattle.flat_form.proofs.copy.+copy.Goals as goal
use Rattle.flat_form.proofs.copy.+copy.Goals.{copy-in-Number, copy-in-Read, copy-in-At+in_ok-index-in-At+in_ok-boxed-in-At, copy-in-Unary+in_ok-a-in-Unary+in_ok-boxed-in-Unary, copy-in-Binary+in_ok-a-in-Binary+in_ok-b-in-Binary+in_ok-boxed-in-Binary+in_ok-boxed-in-Binary-2, copy-in-Gate+in_ok-copy_all-in-Gate, copy-in-Join+in_ok-copy_all-in-Join, copy-in-Repeat+in_ok-copy_all-in-Repeat}

pub copy-loop-inner-preserved : goal.copy-loop-inner-preserved
copy-loop-inner-preserved t c =
    let i = c.in-Choose in
    let around = c.loop-inner.around.items in
    let last : Choice = record { cond = c.in_ok-cond-in-Choose.cond; yes = c.in_ok-yes-in-Choose.yes; width = i.width } in
    let pushed : c.push.new.items.items ≡ around ++ last ∷ [] = c.in_ok-push-in-Choose.ensures.pushed in
    let left = c.deref-inner.ensures in
    record {
      inside = omega (arith, other-smaller c.loop-inner.inner.now c.deref-inner.result.now i.cond i.yes i.other i.width i.is left, c.loop-inner.invariant.inside);
      same = ap (λ (cs : List Choice). wrapped cs (expr_of c.deref-inner.result.now)) pushed ∙ wrapped_push around last (expr_of c.deref-inner.result.now)
          ∙ ap (wrapped around) ((λ j. f.Choose ((c.in_ok-cond-in-Choose.ensures.same ∙ ap expr_of c.deref.ensures) j) ((c.in_ok-yes-in-Choose.ensures.same ∙ ap expr_of c.deref-in-Choose.ensures) j) (expr_of (left j)))
          ∙ sym (ap expr_of i.is ∙ expr_of-Choose i.cond i.yes i.other i.width)) ∙ c.loop-inner.invariant.same;
      kept = ap (λ (cs : List Choice). kept_wrapped cs (kept_of c.deref-inner.result.now)) pushed ∙ kept_push around last (kept_of c.deref-inner.result.now)
          ∙ ap (kept_wrapped around) ((λ j. kept_choice i.width ((c.in_ok-cond-in-Choose.ensures.kept ∙ ap kept_of c.deref.ensures) j) ((c.in_ok-yes-in-Choose.ensures.kept ∙ ap kept_of c.deref-in-Choose.ensures) j) (kept_of (left j)))
          ∙ sym (ap kept_of i.is ∙ kept_of-Choose i.cond i.yes i.other i.width)) ∙ c.loop-inner.invariant.kept;
    }

innermost : (t : ℕ) (c : goal.copy-After-chosen t) → AreSame c.match-inner.whole c.loop-inner.inner.now
innermost t c = elim c.match-inner.branch [
  | copy-in-Number w ↦ (ap expr_of (w.whole-is ∙ sym w.in-Number.is), ap kept_of (w.whole-is ∙ sym w.in-Number.is))
  | copy-in-Read w ↦ (ap expr_of (w.whole-is ∙ sym w.in-Read.is), ap kept_of (w.whole-is ∙ sym w.in-Read.is))
  | copy-in-At+in_ok-index-in-At+in_ok-boxed-in-At w ↦
      let i = w.in-At in
      let x = w.in_ok-boxed-in-At in
      let r = w.in_ok-index-in-At in
      form-same c.match-inner.whole c.loop-inner.inner.now (e.At i.sig x.field-0 i.width) (e.At i.sig i.index i.width) w.whole-is
      (at-same i.sig x.field-0 i.index i.width (boxed-same x.field-0 i.index r.index w.deref-in-At.result.now x.ensures r.ensures.same r.ensures.kept w.deref-in-At.ensures)) i.is
  | copy-in-Unary+in_ok-a-in-Unary+in_ok-boxed-in-Unary w ↦
      let i = w.in-Unary in
      let x = w.in_ok-boxed-in-Unary in
      let r = w.in_ok-a-in-Unary in
      form-same c.match-inner.whole c.loop-inner.inner.now (e.Unary i.op x.field-0 i.width) (e.Unary i.op i.a i.width) w.whole-is
      (unary-same i.op x.field-0 i.a i.width (boxed-same x.field-0 i.a r.a w.deref-in-Unary.result.now x.ensures r.ensures.same r.ensures.kept w.deref-in-Unary.ensures)) i.is
  | copy-in-Binary+in_ok-a-in-Binary+in_ok-b-in-Binary+in_ok-boxed-in-Binary+in_ok-boxed-in-Binary-2 w ↦
      let i = w.in-Binary in
      let x = w.in_ok-boxed-in-Binary in
      let y = w.in_ok-boxed-in-Binary-2 in
      let r = w.in_ok-a-in-Binary in
      let s = w.in_ok-b-in-Binary in
      form-same c.match-inner.whole c.loop-inner.inner.now (e.Binary i.op x.field-0 y.field-0 i.width) (e.Binary i.op i.a i.b i.width) w.whole-is
      (binary-same i.op x.field-0 y.field-0 i.a i.b i.width
      (boxed-same x.field-0 i.a r.a w.deref-in-Binary.result.now x.ensures r.ensures.same r.ensures.kept w.deref-in-Binary.ensures)
      (boxed-same y.field-0 i.b s.b w.deref-in-Binary-2.result.now y.ensures s.ensures.same s.ensures.kept w.deref-in-Binary-2.ensures)) i.is
  | copy-in-Gate+in_ok-copy_all-in-Gate w ↦
      let i = w.in-Gate in
      let r = w.in_ok-copy_all-in-Gate in
      form-same c.match-inner.whole c.loop-inner.inner.now (e.Gate i.op r.field-0) (e.Gate i.op i.inputs) w.whole-is
      (gate-same i.op r.field-0 i.inputs (listed-same r.field-0 i.inputs w.as_slice.result.now r.ensures.same r.ensures.kept w.as_slice.ensures)) i.is
  | copy-in-Join+in_ok-copy_all-in-Join w ↦
      let i = w.in-Join in
      let r = w.in_ok-copy_all-in-Join in
      form-same c.match-inner.whole c.loop-inner.inner.now (e.Join r.field-0 i.width) (e.Join i.parts i.width) w.whole-is
      (join-same r.field-0 i.parts i.width (listed-same r.field-0 i.parts w.as_slice-in-Join.result.now r.ensures.same r.ensures.kept w.as_slice-in-Join.ensures)) i.is
  | copy-in-Repeat+in_ok-copy_all-in-Repeat w ↦
      let i = w.in-Repeat in
      let r = w.in_ok-copy_all-in-Repeat in
      form-same c.match-inner.whole c.loop-inner.inner.now (e.Repeat i.count r.field-0 i.width) (e.Repeat i.count i.parts i.width) w.whole-is
      (repeat-same i.count r.field-0 i.parts i.width (listed-same r.field-0 i.parts w.as_slice-in-Repeat.result.now r.ensures.same r.ensures.kept w.as_slice-in-Repeat.ensures)) i.is
]

pub copy-returns-in-loop-inner-clause-same : goal.copy-returns-in-loop-inner-clause-same
copy-returns-in-loop-inner-clause-same t c =
    IfOk-weaker c.chosen.result _ _ (λ x h. h ∙ ap (wrapped c.loop-inner.around.items) (innermost t c).0 ∙ c.loop-inner.invariant.same) c.chosen.ensures.same

pub copy-returns-in-loop-inner-clause-kept : goal.copy-returns-in-loop-inner-clause-kept
copy-returns-in-loop-inner-clause-kept t c =
    IfOk-weaker c.chosen.result _ _ (λ x h. h ∙ ap (kept_wrapped c.loop-inner.around.items) (innermost t c).1 ∙ c.loop-inner.invariant.kept) c.chosen.ensures.kept

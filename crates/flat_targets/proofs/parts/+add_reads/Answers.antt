use Rattle.std.proofs.Common.{List, map, sym, subst, arith}
use Rattle.std.proofs.lemmas.Result.{IfOk-weaker}
use Rattle.flat_targets.specs.Parts.{width_among}
use Rattle.flat_form.specs.declared.flat.FExpr.{FExpr}
use Rattle.flat_form.specs.View.{expr_of, exprs_of}
use Rattle.flat_form.specs.Masks.{bits_in, Adds}
use Rattle.flat_meaning.specs.Law.{expr_reads}
use Rattle.flat_form.specs.Uses.{exprs_read}
use Rattle.flat_form.proofs.MaskSets.{Left}
use Rattle.flat_form.proofs.Depths.{other-smaller, index-smaller, operand-smaller, left-smaller}
use Rattle.flat_form.proofs.ExprUses.{reads-number, reads-read, reads-at, reads-unary, reads-binary, reads-choose, reads-gate, reads-join, reads-repeat}
use Rattle.flat_targets.proofs.parts.+add_reads.Goals as goal

pub add_reads-returns-in-Number : goal.add_reads-returns-in-Number
add_reads-returns-in-Number t c =
    let wid = width_among c.args.entries.now in
    let whole = expr_reads wid (expr_of c.args.expr.now) in
    let i = c.in-Number in
    reads-number wid c.args.reads.now c.loop-inner.reads whole c.loop-inner.inner.now c.loop-inner.invariant.left i.value i.width i.is

pub add_reads-returns-in-Read : goal.add_reads-returns-in-Read
add_reads-returns-in-Read t c =
    let wid = width_among c.args.entries.now in
    let whole = expr_reads wid (expr_of c.args.expr.now) in
    let i = c.in-Read in
    IfOk-weaker c.add.result _ _ (λ _ h. reads-read wid c.args.reads.now c.loop-inner.reads whole c.loop-inner.inner.now c.loop-inner.invariant.left c.add.new.self i.sig i.at i.width c.bits.result i.is c.bits.ensures h) c.add.ensures.added

pub add_reads-loop-inner-preserved-in-At : goal.add_reads-loop-inner-preserved-in-At
add_reads-loop-inner-preserved-in-At t c =
    let wid = width_among c.args.entries.now in
    let whole = expr_reads wid (expr_of c.args.expr.now) in
    let old = c.args.reads.now in
    let x = c.loop-inner.inner.now in
    let i = c.in-At in
    let new = c.add-in-At.new.self in
    let next = c.deref-inner in
    record {
      inside = omega (arith, index-smaller x next.result.now i.sig i.index i.width i.is next.ensures, c.loop-inner.invariant.inside);
      left = subst (λ (z : FExpr). Left (bits_in old) new (expr_reads wid (expr_of z)) whole) (sym next.ensures)
          (reads-at wid old c.loop-inner.reads whole x c.loop-inner.invariant.left new i.sig c.all_bits.result i.index i.width i.is c.all_bits.ensures c.in_ok-add-in-At.ensures.added);
    }

pub add_reads-loop-inner-preserved-in-Unary : goal.add_reads-loop-inner-preserved-in-Unary
add_reads-loop-inner-preserved-in-Unary t c =
    let wid = width_among c.args.entries.now in
    let whole = expr_reads wid (expr_of c.args.expr.now) in
    let old = c.args.reads.now in
    let x = c.loop-inner.inner.now in
    let i = c.in-Unary in
    let now = c.loop-inner.reads in
    let next = c.deref-inner-in-Unary in
    record {
      inside = omega (arith, operand-smaller x next.result.now i.op i.a i.width i.is next.ensures, c.loop-inner.invariant.inside);
      left = subst (λ (z : FExpr). Left (bits_in old) now (expr_reads wid (expr_of z)) whole) (sym next.ensures) (reads-unary wid old now whole x c.loop-inner.invariant.left i.op i.a i.width i.is);
    }

pub add_reads-loop-inner-preserved-in-Binary : goal.add_reads-loop-inner-preserved-in-Binary
add_reads-loop-inner-preserved-in-Binary t c =
    let wid = width_among c.args.entries.now in
    let whole = expr_reads wid (expr_of c.args.expr.now) in
    let old = c.args.reads.now in
    let x = c.loop-inner.inner.now in
    let i = c.in-Binary in
    let now = c.loop-inner.reads in
    let new = c.add_reads.new.reads in
    let next = c.deref-inner-in-Binary in
    record {
      inside = omega (arith, left-smaller x next.result.now i.op i.a i.b i.width i.is next.ensures, c.loop-inner.invariant.inside);
      left = subst (λ (z : FExpr). Left (bits_in old) new (expr_reads wid (expr_of z)) whole) (sym next.ensures)
          (reads-binary wid old now whole x c.loop-inner.invariant.left new i.op i.a i.b i.width i.is
          (subst (λ (z : FExpr). Adds now new (expr_reads wid (expr_of z))) c.deref.ensures c.in_ok-add_reads-in-Binary.ensures));
    }

pub add_reads-loop-inner-preserved : goal.add_reads-loop-inner-preserved
add_reads-loop-inner-preserved t c =
    let wid = width_among c.args.entries.now in
    let whole = expr_reads wid (expr_of c.args.expr.now) in
    let old = c.args.reads.now in
    let x = c.loop-inner.inner.now in
    let i = c.in-Choose in
    let now = c.loop-inner.reads in
    let middle = c.add_reads-in-Choose.new.reads in
    let new = c.add_reads-in-Choose-2.new.reads in
    let next = c.deref-inner-in-Choose in
    record {
      inside = omega (arith, other-smaller x next.result.now i.cond i.yes i.other i.width i.is next.ensures, c.loop-inner.invariant.inside);
      left = subst (λ (z : FExpr). Left (bits_in old) new (expr_reads wid (expr_of z)) whole) (sym next.ensures)
          (reads-choose wid old now whole x c.loop-inner.invariant.left middle new i.cond i.yes i.other i.width i.is
          (subst (λ (z : FExpr). Adds now middle (expr_reads wid (expr_of z))) c.deref-in-Choose.ensures c.in_ok-add_reads-in-Choose.ensures)
          (subst (λ (z : FExpr). Adds middle new (expr_reads wid (expr_of z))) c.deref-in-Choose-2.ensures c.in_ok-add_reads-in-Choose-2.ensures));
    }

pub add_reads-returns-in-Gate : goal.add_reads-returns-in-Gate
add_reads-returns-in-Gate t c =
    let wid = width_among c.args.entries.now in
    let whole = expr_reads wid (expr_of c.args.expr.now) in
    let i = c.in-Gate in
    let now = c.loop-inner.reads in
    let new = c.add_reads_of.new.reads in
    IfOk-weaker c.add_reads_of.result _ _ (λ _ h. reads-gate wid c.args.reads.now now whole c.loop-inner.inner.now c.loop-inner.invariant.left new i.op i.inputs i.is
    (subst (λ (es : List FExpr). Adds now new (exprs_read wid (exprs_of (map expr_of es)))) c.as_slice.ensures h)) c.add_reads_of.ensures

pub add_reads-returns-in-Join : goal.add_reads-returns-in-Join
add_reads-returns-in-Join t c =
    let wid = width_among c.args.entries.now in
    let whole = expr_reads wid (expr_of c.args.expr.now) in
    let i = c.in-Join in
    let now = c.loop-inner.reads in
    let new = c.add_reads_of-in-Join.new.reads in
    IfOk-weaker c.add_reads_of-in-Join.result _ _ (λ _ h. reads-join wid c.args.reads.now now whole c.loop-inner.inner.now c.loop-inner.invariant.left new i.parts i.width i.is
    (subst (λ (es : List FExpr). Adds now new (exprs_read wid (exprs_of (map expr_of es)))) c.as_slice-in-Join.ensures h)) c.add_reads_of-in-Join.ensures

pub add_reads-returns-in-Repeat : goal.add_reads-returns-in-Repeat
add_reads-returns-in-Repeat t c =
    let wid = width_among c.args.entries.now in
    let whole = expr_reads wid (expr_of c.args.expr.now) in
    let i = c.in-Repeat in
    let now = c.loop-inner.reads in
    let new = c.add_reads_of-in-Repeat.new.reads in
    IfOk-weaker c.add_reads_of-in-Repeat.result _ _ (λ _ h. reads-repeat wid c.args.reads.now now whole c.loop-inner.inner.now c.loop-inner.invariant.left new i.count i.parts i.width i.is
    (subst (λ (es : List FExpr). Adds now new (exprs_read wid (exprs_of (map expr_of es)))) c.as_slice-in-Repeat.ensures h)) c.add_reads_of-in-Repeat.ensures

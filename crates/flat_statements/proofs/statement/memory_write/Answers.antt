use Rattle.std.proofs.Common.{◌≡◌, ◌+◌, ◌<◌, ◌^◌, List, map, ap, sym, subst, ◌∙◌, arith, false}
use Rattle.flat_meaning.specs.Flat as f
use Rattle.flat_form.specs.declared.flat.FStmt.{FStmt}
use Rattle.flat_form.specs.View.{expr_of, stmt_of, stmts_of}
use Rattle.flat_form.proofs.Sized.{sized_width}
use Rattle.flat_unfolding.specs.Widths.{all_true, stmt_keeps_sizes}
use Rattle.flat_form.specs.Sizes.{is_sized, kept_of}
use Rattle.flat_unfolding.specs.Expressions.{is_index}
use Rattle.flat_unfolding.specs.Memories.{writes_from}
use Rattle.flat_names.specs.Looks.{memory_of}
use Rattle.flat_statements.proofs.Forms.{builds-block}
use Rattle.flat_statements.proofs.Loops.{WritesSoFar, values-are, writes-step, writes-end}
use Rattle.flat_statements.proofs.statement.memory_write.Goals as goal

pub loop-n-preserved : goal.loop-n-preserved
loop-n-preserved c = λ s w l.
    let m = memory_of c.args.memory in
    let i = expr_of c.args.index.now in
    let v = expr_of c.args.value.now in
    let n = c.loop-n.n in
    let count = 2 ^ (kept_of c.args.index.now).width in
    let values = values-are c.width_of.result (kept_of c.args.index.now).width c.args.memory.words c.index_values-words.result c.width_of.ensures.kept w (omega arith) c.index_values-words.ensures in
    let inside : n < count = omega (arith, values, c.loop-n-test.true) in
    let r = c.in_ok-write.ensures s inside in
    let word : c.saturating_add.result ≡ m.first + n = omega (arith, l, w, inside, c.saturating_add.ensures) in
    subst (λ (ws : List FStmt). WritesSoFar m i v (is_sized c.args.value.now) count (n + 1) ws) (sym c.in_ok-push.ensures.pushed)
    (writes-step m i v (is_sized c.args.value.now) count n c.loop-n.writes.items c.in_ok-write.write (c.loop-n.invariant s w l) (r.0 ∙ ap (λ a. f.If (is_index i n) (f.Set false (f.Whole a) v) f.Null) word) r.1)

pub returns : goal.returns
returns c = λ s w l.
    let m = memory_of c.args.memory in
    let i = expr_of c.args.index.now in
    let v = expr_of c.args.value.now in
    let count = 2 ^ (kept_of c.args.index.now).width in
    let values = values-are c.width_of.result (kept_of c.args.index.now).width c.args.memory.words c.index_values-words.result c.width_of.ensures.kept w (omega arith) c.index_values-words.ensures in
    let h = c.loop-n.invariant s w l in
    let b = builds-block c.from_vec.result in
    let all : c.loop-n.n ≡ count = omega (arith, values) in (
      b.stmt ∙ ap (λ (ws : List FStmt). f.Block (stmts_of (map stmt_of ws))) c.from_vec.ensures ∙ ap f.Block (writes-end m i v (is_sized c.args.value.now) count c.loop-n.n c.loop-n.writes.items all h)
          ∙ ap (λ k. f.Block (writes_from m i v 0 (2 ^ k))) (sized_width c.args.index.now s),
      (λ z. b.sizes ∙ ap (λ (ws : List FStmt). all_true (map stmt_keeps_sizes ws)) c.from_vec.ensures ∙ h.sizes z),
    )

use Rattle.std.proofs.Common.{◌+◌, List, map, drop, Option, Box, Global, subst, ap, ◌∙◌}
use Rattle.std.proofs.lemmas.Result.{IfOk-weaker}
use Rattle.flat_meaning.specs.Flat.{no_items}
use Rattle.flat_meaning.specs.Deps.{union}
use Rattle.flat_meaning.specs.Design.{width_in}
use Rattle.flat_form.specs.declared.flat.FStmt.{FStmt}
use Rattle.flat_form.specs.declared.flat.FStmt.TheVariants as s
use Rattle.flat_form.specs.declared.flat.FCaseItem.{FCaseItem}
use Rattle.flat_form.specs.View.{stmt_of, stmts_of, arm_of, items_of}
use Rattle.flat_form.specs.Masks.{bits_in, Adds}
use Rattle.flat_form.specs.Uses.{exprs_read, stmt_reads, items_read, stmts_read}
use Rattle.flat_form.proofs.ExprUses.{list-step}
use Rattle.flat_form.proofs.StmtUses.{item-reads, items-step, block-reads, case-reads}
use Rattle.flat_form.proofs.uses.+add_statement_reads.Goals as goal

pub add_item_reads-loop-item-preserved : goal.add_item_reads-loop-item-preserved
add_item_reads-loop-item-preserved t c =
    let wid = width_in c.args.signals.now in
    let rs = λ (xs : List FCaseItem). items_read wid (items_of (map arm_of xs) no_items) in
    let all = c.args.items.now in
    let x = c.item-item.result in
    list-step rs (λ (x : FCaseItem). union (exprs_read wid (arm_of x).labels) (stmt_reads wid (arm_of x).body)) (bits_in c.args.reads.now) c.loop-item.reads c.add_statement_reads.new.reads (rs all) all c.loop-item.item-index x c.loop-item-test.true c.item-item.is (items-step wid x (drop (c.loop-item.item-index + 1) all)) c.loop-item.invariant (item-reads wid c.loop-item.reads c.add_reads_of.new.reads c.add_statement_reads.new.reads x c.as_slice.result.now c.as_slice.ensures c.in_ok-add_reads_of.ensures.added c.in_ok-add_statement_reads.ensures.added)

pub add_statement_reads-returns-in-Some-default : goal.add_statement_reads-returns-in-Some-default
add_statement_reads-returns-in-Some-default t c =
    let wid = width_in c.args.signals.now in
    let i = c.in-Case in
    let d = c.in-Some-default in
    let first = c.add_reads-in-Case.new.reads in
    let middle = c.add_item_reads.new.reads in
    let last = c.add_statement_reads-in-Some-default.new.reads in
    record {
      added = IfOk-weaker c.add_statement_reads-in-Some-default.result _ _ (λ _ h.
          case-reads wid c.args.stmt.now c.args.reads.now first middle last i.subject i.items d.default (i.is ∙ ap (λ (o : Option (Box FStmt Global)). s.Case i.subject i.items o) d.is)
          c.in_ok-add_reads-in-Case.ensures.added
          (subst (λ (is : List FCaseItem). Adds first middle (items_read wid (items_of (map arm_of is) no_items))) c.as_slice.ensures c.in_ok-add_item_reads-in-Case.ensures.added)
          (subst (λ (x : FStmt). Adds middle last (stmt_reads wid (stmt_of x))) c.deref-in-Some-default.ensures h)) c.add_statement_reads-in-Some-default.ensures.added;
    }

pub add_statement_reads-returns-in-Block : goal.add_statement_reads-returns-in-Block
add_statement_reads-returns-in-Block t c =
    let wid = width_in c.args.signals.now in
    let old = c.args.reads.now in
    let new = c.add_block_reads.new.reads in
    record {
      added = IfOk-weaker c.add_block_reads.result _ _ (λ _ h. block-reads wid c.args.stmt.now old new c.in-Block.stmts c.in-Block.is
          (subst (λ (ss : List FStmt). Adds old new (stmts_read wid (stmts_of (map stmt_of ss)))) c.as_slice-in-Block.ensures h)) c.add_block_reads.ensures.added;
    }

use Rattle.std.proofs.Common.{length, subst}
use Rattle.verilog_reading.specs.StmtTree.{stmt_tree_of}
use Rattle.flat_unfolding.specs.Statements.{clocked, done}
use Rattle.flat_unfolding.specs.Resets.{reset_form}
use Rattle.flat_unfolding.specs.Processes.{body_with, reset_gives}
use Rattle.flat_names.proofs.Options.{ok-map}
use Rattle.flat_process.specs.Processes.{reset_with, IsClocked}
use Rattle.flat_process.proofs.always.process_with_form.Goals as goal

pub returns : goal.returns
returns c = λ pins l h fit pinned formed.
    let t = stmt_tree_of c.args.body.now in
    let whole = c.in_ok-whole.ensures l h fit formed in
    let form = c.in_ok-form.ensures l h fit formed in
    ok-map c.with_reset.result
    (λ p k. (
      subst (λ o. IsClocked (length l.entries) c.args.clock (body_with l t (reset_form l t)) (reset_with l o t) (reset_gives l (reset_form l t)) (done l clocked t).broken p) (c.reset_signal-edge.ensures l h) k,
      whole.1,
      c.in_ok-note_reset.ensures pins l (done l clocked t).broken (reset_form l t) h pinned form,
    ))
    (c.with_reset.ensures l t h whole.0 form)

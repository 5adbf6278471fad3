-- The process begins with its signals' first trees.
use Rattle.std.proofs.Common.{◌≡◌, ℕ, subst}
use Rattle.flat_form.specs.View.{stmt_of}
use Rattle.flat_meaning.specs.Flat.{assigns}
use Rattle.flat_meaning.specs.Trees.{after}
use Rattle.flat_meaning.specs.Assigned.{may_assign}
use Rattle.driver_trees.specs.Changes.{IsProcess, look_of}
use Rattle.driver_trees.specs.Sketched.{begin_tree}
use Rattle.driver_trees.proofs.Growing.{still-grows}
use Rattle.driver_trees.proofs.Begun.{begun_for, only_keys, only_bits}
use Rattle.driver_trees.proofs.sketch.execute.Goals as goal

pub returns : goal.returns
returns c = record {
  executes = λ wid drafts idle read.
      let B = stmt_of c.args.body.now in let blocking = c.args.blocking in let m = c.collect.new.assigned in
      let ds = c.args.drafts.now in let es = c.begin.new.drafts in let fs = c.run.new.drafts in
      let added = c.in_ok-collect.ensures.adds wid idle.widths in
      let keys = only_keys c.new-assigned.result m c.new-assigned.ensures.empty (assigns B) (may_assign wid B) added in
      let b = c.in_ok-begin.ensures.begins wid drafts idle in
      let process = begun_for wid es c.begin.new.present blocking _ (assigns B) keys b.1 in
      let r = c.in_ok-run.ensures.runs wid (assigns B) (begin_tree blocking (assigns B) wid) process read (λ x h. h) in (
        still-grows wid ds es fs b.0 r.grows,
        subst (λ k. IsProcess wid fs c.run.new.present (assigns B) (λ sel. after wid (look_of wid k (assigns B) sel) B (begin_tree blocking (assigns B) wid sel))) c.in_ok-begin.ensures.blocking r.process,
        keys,
        only_bits c.new-assigned.result m c.new-assigned.ensures.empty (assigns B) (may_assign wid B) added,
      );
}

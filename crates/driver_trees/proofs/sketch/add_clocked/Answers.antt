-- The process's last trees are its registers' next values.
use Rattle.std.proofs.Common.{◌≡◌, ℕ, true, is_some, unwrap_or, sym, ◌∙◌, arith}
use Rattle.std.specs.Ordering.{nat_cmp}
use Rattle.std.specs.BTreeMap.{get}
use Rattle.flat_form.specs.View.{stmt_of}
use Rattle.driver_trees.specs.Presents.{present_of}
use Rattle.driver_trees.proofs.Growing.{still-grows}
use Rattle.driver_trees.proofs.Stays.{word_grows}
use Rattle.driver_trees.proofs.Statements.{ok_all}
use Rattle.driver_trees.proofs.Begun.{nexts_more}
use Rattle.driver_trees.proofs.sketch.add_clocked.Goals as goal

pub returns : goal.returns
returns c = record {
  adds = λ wid before drafts idle read some nexts.
      let B = stmt_of c.args.process.now.body in let K = c.args.process.now.clock in
      let ds = c.args.drafts.now in let es = c.execute.new.drafts in let fs = c.read.new.self in let q = c.execute.new.present in let clock = c.in_ok-clock.clock in
      let m = c.in_ok-assigned.assigned in
      let e = c.in_ok-assigned.ensures.executes wid drafts idle read in
      let b = c.in_ok-clock.ensures.built wid e.0.drafts (omega arith) (omega (arith, some)) (idle.words K) in
      let g = still-grows wid ds es fs e.0 b.grows in
      let keys = λ (x : ℕ) (s : is_some (present_of q x) ≡ true). e.2 x ∙ sym (e.1.targets x) ∙ s in
      ok_all c.add_nexts.result (c.add_nexts.ensures.idle wid idle.words e.1.widths keys) (c.add_nexts.ensures.givers keys) (c.add_nexts.ensures.clocks keys)
      (λ u i givers clocks. (
        g,
        i,
        nexts_more wid ds fs g c.args.nexts.now c.add_nexts.new.nexts before (K, B) clock (present_of q) (λ x. unwrap_or (get nat_cmp m x) 0) nexts givers clocks e.1.targets
            (λ x id h. word_grows wid es fs b.grows id x _ (e.1.trees x id h)) e.3 b.place b.tree,
      ));
}

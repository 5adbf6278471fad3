-- The signal has its next tree, all others stay.
use Rattle.std.proofs.Common.{◌≡◌, ℕ, true, false, cond, ◌==◌, Some, refl, sym, ap, ◌∙◌, eq-eqb}
use Rattle.flat_meaning.specs.Trees.{Trees}
use Rattle.driver_trees.specs.Drafts.{tree_in, width_at}
use Rattle.driver_trees.specs.Presents.{present_of, is_target}
use Rattle.driver_trees.specs.Shares.{put_share, share_tree, placed_tree, place_of}
use Rattle.driver_trees.proofs.Processes.{assigned_process}
use Rattle.driver_trees.proofs.target.assign.Goals as goal

pub returns-in_ok-set : goal.returns-in_ok-set
returns-in_ok-set c = record {
  assigns = λ wid target ts process put is.
      let ds = c.args.drafts.now in let k = c.args.put.sig in
      let t : is_target c.args.present.now k ≡ true = process.targets k ∙ is in
      let here : present_of c.args.present.now k ≡ Some c.in-Some.old = sym c.tree.ensures ∙ c.in-Some.is in
      let o = process.trees k c.in-Some.old here in
      let b = c.in_ok-next.ensures.built wid (wid k) (width_at ds c.args.put.tree) process.drafts o.place (process.words k) put.word put.place in
      let a = c.in_ok-set.ensures.assigns t in (
        b.grows,
        a,
        assigned_process wid ds c.placed.new.drafts b.grows c.args.present.now c.set.new.self target ts (λ sel. share_tree wid (put_share sel ds c.args.put) (ts sel)) k c.in_ok-next.next
            process a (c.in_ok-set.ensures.tree t)
            (record {
              place = b.place;
              tree = λ sel. b.tree sel ∙ ap (placed_tree (wid k) (place_of sel ds c.args.put.spot) (tree_in sel ds c.args.put.tree)) (o.tree sel)
                  ∙ sym (ap (λ b. cond b (placed_tree (wid k) (place_of sel ds c.args.put.spot) (tree_in sel ds c.args.put.tree) (ts sel k)) (ts sel k)) (eq-eqb k k refl));
            })
            (λ sel x e. ap (λ b. cond b (placed_tree (wid k) (place_of sel ds c.args.put.spot) (tree_in sel ds c.args.put.tree) (ts sel k)) (ts sel x)) e),
      );
}

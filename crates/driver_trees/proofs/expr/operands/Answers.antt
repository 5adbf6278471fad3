-- The truths of both operands.
use Rattle.std.proofs.Common.{◌≡◌, true, cond, sym, ap, subst, ◌∙◌}
use Rattle.flat_meaning.specs.Trees.{truth}
use Rattle.driver_trees.specs.Drafts.{tree_in, IsDraftOf}
use Rattle.driver_trees.specs.Operators.{takes_truths}
use Rattle.driver_trees.proofs.Growing.{place-kept, still-grows, tree-kept, tree-later}
use Rattle.driver_trees.proofs.expr.operands.Goals as goal

pub returns-in_ok-y : goal.returns-in_ok-y
returns-in_ok-y c = record {
  built = λ wid m n are left right.
      let old = c.args.drafts.now in
      let mid = c.truth.new.self in
      let new = c.truth-then-is_logic.new.self in
      let e : true ≡ takes_truths c.args.op = sym c.if-is_logic.true ∙ c.is_logic.ensures in
      let one = c.in_ok-x.ensures.built wid m are left in
      let two = c.in_ok-y.ensures.built wid n one.grows.drafts (place-kept old mid c.args.b n one.grows.longer right) in
      record {
        grows = still-grows wid old mid new one.grows two.grows;
        left = subst (λ v. IsDraftOf new c.in_ok-x.x (cond v 1 m)) e (place-kept mid new c.in_ok-x.x 1 two.grows.longer one.place);
        right = subst (λ v. IsDraftOf new c.in_ok-y.y (cond v 1 n)) e two.place;
        left_tree = λ sel. tree-later new sel one two.grows.longer ∙ ap (λ v. cond v (truth m (tree_in sel old c.args.a)) (tree_in sel old c.args.a)) e;
        right_tree = λ sel. two.tree sel ∙ ap (truth n) (tree-kept sel old mid one.grows.longer c.args.b right.0)
            ∙ ap (λ v. cond v (truth n (tree_in sel old c.args.b)) (tree_in sel old c.args.b)) e;
      };
}

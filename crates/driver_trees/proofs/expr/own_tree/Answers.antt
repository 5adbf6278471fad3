-- The kept width is the size.
use Rattle.std.proofs.Common.{◌≡◌, IfOk, subst, arith}
use Rattle.flat_form.specs.View.{expr_of}
use Rattle.flat_meaning.specs.Flat.{size}
use Rattle.flat_meaning.specs.Trees.{tree}
use Rattle.driver_trees.specs.Growth.{IsBuilt}
use Rattle.driver_trees.proofs.Forms.{size-range}
use Rattle.driver_trees.proofs.expr.own_tree.Goals as goal

pub returns : goal.returns
returns c = record {
  built = λ wid look are sees is.
      let x = c.args.e.now in
      let own : c.width_of.result ≡ size (expr_of x) = c.width_of.ensures.size is.sized in
      let range = size-range wid x is in
      subst (λ n. IfOk c.tree.result (λ id. IsBuilt wid c.args.drafts.now c.tree.new.drafts id n (λ sel. tree wid (look sel) (expr_of x) n))) own
      (c.tree.ensures.built wid look are sees is (omega (arith, own)) (omega (arith, own, range.most)));
}

-- A reduction, or the truth.
use Rattle.std.proofs.Common.{◌≡◌, Some, None, refl, sym, ap, ◌∙◌}
use Rattle.driver_trees.specs.Drafts.{tree_in}
use Rattle.driver_trees.specs.Operators.{reduction, bit_tree}
use Rattle.driver_trees.proofs.Growing.{built-as, ok-map}
use Rattle.driver_trees.proofs.expr.unary_bit.Goals as goal

pub returns-in-Some : goal.returns-in-Some
returns-in-Some c = record {
  built = λ wid m are is.
      let e : Some c.in-Some.kind ≡ reduction c.args.op = sym c.in-Some.is ∙ c.reduction_of.ensures in
      ok-map c.add.result (λ id b. built-as (λ sel. bit_tree (reduction c.args.op) m (tree_in sel c.args.drafts.now c.args.a)) b (λ sel. ap (λ o. bit_tree o m (tree_in sel c.args.drafts.now c.args.a)) e))
      (c.add.ensures.built wid 1 are (refl, is.0));
}

pub returns-in-None : goal.returns-in-None
returns-in-None c = record {
  built = λ wid m are is.
      let e : None ≡ reduction c.args.op = sym c.in-None.is ∙ c.reduction_of.ensures in
      ok-map c.truth.result (λ id b. built-as (λ sel. bit_tree (reduction c.args.op) m (tree_in sel c.args.drafts.now c.args.a)) b (λ sel. ap (λ o. bit_tree o m (tree_in sel c.args.drafts.now c.args.a)) e))
      (c.truth.ensures.built wid m are is);
}

-- The negated word.
use Rattle.std.proofs.Common.{sym, ap}
use Rattle.driver_trees.specs.Drafts.{tree_in}
use Rattle.driver_trees.specs.Operators.{not_if}
use Rattle.driver_trees.proofs.Growing.{built-as, ok-map}
use Rattle.driver_trees.proofs.expr.negated_if.Goals as goal

pub returns-then-negated : goal.returns-then-negated
returns-then-negated c = record {
  built = λ wid m are is. ok-map c.add.result
      (λ id b. built-as (λ sel. not_if c.args.negated (tree_in sel c.args.drafts.now c.args.a)) b (λ sel. sym (ap (λ v. not_if v (tree_in sel c.args.drafts.now c.args.a)) c.if-negated.true)))
      (c.add.ensures.built wid m are (sym is.1, is.0));
}

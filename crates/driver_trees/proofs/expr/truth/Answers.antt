-- The truth of the expression at its own size.
use Rattle.flat_form.specs.View.{expr_of}
use Rattle.flat_meaning.specs.Flat.{size}
use Rattle.flat_meaning.specs.Trees.{truth}
use Rattle.driver_trees.proofs.Growing.{built-of, ok-map}
use Rattle.driver_trees.proofs.expr.truth.Goals as goal

pub returns : goal.returns
returns c = record {
  built = λ wid look are sees is.
      let n = size (expr_of c.args.e.now) in
      let one = c.in_ok-word.ensures.built wid look are sees is in
      ok-map c.truth.result (λ id b. built-of (truth n) one b) (c.truth.ensures.built wid n one.grows.drafts one.place);
}

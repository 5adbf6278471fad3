-- The signal has a place where it has a tree then.
use Rattle.std.proofs.Common.{◌≡◌, Some, slice_get, sym, ap, ◌∙◌}
use Rattle.std.specs.Option.{option_flatten}
use Rattle.driver_trees.proofs.Begun.{given_at}
use Rattle.driver_trees.proofs.sketch.place.Goals as goal

pub returns-in-Some-clause-trees : goal.returns-in-Some-clause-trees
returns-in-Some-clause-trees c =
    let e = c.start.ensures.trees in let k = c.args.sig in let ts = c.args.present.now.trees.items in
    λ x. ap (λ ts. option_flatten (slice_get ts x)) e ∙ given_at ts k c.args.tree _ (sym (ap (λ ts. option_flatten (slice_get ts k)) e) ∙ sym c.tree.ensures ∙ c.in-Some.is) x

-- No tree is left.
use Rattle.std.proofs.Common.{slice_get, ap, ◌∙◌}
use Rattle.std.specs.Option.{option_flatten}
use Rattle.driver_trees.proofs.Begun.{taken_at}
use Rattle.driver_trees.proofs.sketch.finish.Goals as goal

pub returns-clause-trees : goal.returns-clause-trees
returns-clause-trees c = λ x. ap (λ ts. option_flatten (slice_get ts x)) c.finish.ensures.trees ∙ taken_at c.args.present.now.trees.items c.args.sig x

use Rattle.std.proofs.Common.{true, ap, ◌∙◌}
use Rattle.std.specs.Option.{option_map_or}
use Rattle.flat_unfolding.specs.Resets.{is_edge_of}
use Rattle.flat_process.proofs.always.fits_edge.Goals as goal

pub returns-in-Some : goal.returns-in-Some
returns-in-Some c = λ pins l h pinned. c.is_edge_of.ensures pins l h pinned ∙ ap (λ o. option_map_or (is_edge_of l c.args.signals.now) o true) (c.in-Some.ensures l h)

use Rattle.std.proofs.Common.{true, not, ◌||◌, ap, ◌∙◌}
use Rattle.std.specs.Option.{option_map_or}
use Rattle.flat_unfolding.specs.Processes.{reset_edge}
use Rattle.flat_unfolding.specs.Resets.{is_edge_of, is_malformed}
use Rattle.flat_process.proofs.Processes.{or-left, or-right}
use Rattle.flat_process.proofs.always.breaks_form.Goals as goal

pub returns-then-not-fits_edge : goal.returns-then-not-fits_edge
returns-then-not-fits_edge c = λ pins l bs f h pinned is.
    let fits = c.fits_edge.ensures pins l h pinned ∙ ap (λ ss. option_map_or (is_edge_of l ss) (reset_edge l c.args.edges.now) true) (c.as_slice.ensures.value ∙ is.signals) in
    or-left (not c.fits_edge.result) (is_malformed l f) (ap not c.if-not-fits_edge.true) ∙ ap (λ b. not b || is_malformed l f) fits

pub returns-else-not-fits_edge : goal.returns-else-not-fits_edge
returns-else-not-fits_edge c = λ pins l bs f h pinned is.
    let fits = c.fits_edge.ensures pins l h pinned ∙ ap (λ ss. option_map_or (is_edge_of l ss) (reset_edge l c.args.edges.now) true) (c.as_slice.ensures.value ∙ is.signals) in
    c.is_malformed.ensures l bs f is ∙ or-right (not c.fits_edge.result) (is_malformed l f) (ap not c.if-not-fits_edge.false) ∙ ap (λ b. not b || is_malformed l f) fits

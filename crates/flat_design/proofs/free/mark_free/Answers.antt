use Rattle.std.proofs.Common.{true, Bool, not, List, ap, ◌∙◌}
use Rattle.std.specs.Prelude.{unwrap_or, option_map, slice_get}
use Rattle.flat_design.specs.Freeing.{free_if}
use Rattle.flat_design.proofs.FreeSignals.{shows-free}
use Rattle.flat_design.proofs.free.mark_free.Goals as goal

pub returns : goal.returns
returns c = λ d h.
    let names = c.in_ok-names.names in
    shows-free c.args.pins.now c.args.design.now d h c.args.named.now names c.in_ok-names.ensures
    c.in_ok-driven.driven.items c.in_ok-driven.ensures c.set_free.new.signals
    (λ s. c.set_free.ensures s ∙ ap (λ (xs : List Bool). option_map (free_if names (not (unwrap_or (slice_get xs s) true)))
    (slice_get c.args.design.now.signals.items s)) c.as_slice.ensures.value)

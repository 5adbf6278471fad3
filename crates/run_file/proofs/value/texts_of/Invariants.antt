use Rattle.std.proofs.Common.{◌≡◌, ◌++◌, drop, Ok}
use Rattle.serde_json.specs.View.{items_view}
use Rattle.clock_constraints.specs.Refusals.{◌>>=◌}
use Rattle.run_file.specs.Values.{texts_of}
use Rattle.run_file.proofs.value.texts_of.Given as goal

abbrev pub invariant-loop-value : goal.invariant-loop-value
invariant-loop-value l = texts_of (items_view l.values.items)
    ≡ (texts_of (items_view (drop l.value-index l.values.items)) >>= (λ rest. Ok (l.names ++ rest)))

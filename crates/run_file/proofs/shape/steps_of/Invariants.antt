use Rattle.std.proofs.Common.{◌≡◌, ◌++◌, drop, Ok}
use Rattle.serde_json.specs.View.{items_view}
use Rattle.clock_constraints.specs.Refusals.{◌>>=◌}
use Rattle.run_file.specs.Shapes.{steps_of}
use Rattle.run_file.proofs.shape.steps_of.Given as goal

abbrev pub invariant-loop-value : goal.invariant-loop-value
invariant-loop-value l = steps_of (items_view l.values.items)
    ≡ (steps_of (items_view (drop l.value-index l.values.items)) >>= (λ rest. Ok (l.steps ++ rest)))

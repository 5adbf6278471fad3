use Rattle.std.proofs.Common.{◌≡◌, ◌++◌, drop, Ok}
use Rattle.serde_json.specs.View.{items_view}
use Rattle.clock_constraints.specs.Refusals.{◌>>=◌}
use Rattle.run_file.specs.Shapes.{races_of}
use Rattle.run_file.proofs.shape.races_of.Given as goal

abbrev pub invariant-loop-value : goal.invariant-loop-value
invariant-loop-value l = races_of (items_view l.values.items)
    ≡ (races_of (items_view (drop l.value-index l.values.items)) >>= (λ rest. Ok (l.races ++ rest)))

use Rattle.std.proofs.Common.{◌≡◌, ◌++◌, drop, Ok}
use Rattle.toml.specs.View.{array_view, items_view}
use Rattle.clock_constraints.specs.Refusals.{◌>>=◌}
use Rattle.clock_constraints.specs.Entries.{entries}
use Rattle.clock_constraints.proofs.array.entries.Given as goal

abbrev pub invariant-loop-value : goal.invariant-loop-value
invariant-loop-value g l = entries g.T.Entry.reading (array_view l.values)
    ≡ (entries g.T.Entry.reading (items_view (drop l.value-index l.values.items)) >>= (λ rest. Ok (l.found ++ rest)))

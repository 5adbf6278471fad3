use Rattle.std.proofs.Common.{◌≡◌, drop}
use Rattle.toml.specs.View.{array_view, items_view}
use Rattle.clock_constraints.specs.Entries.{are_tables}
use Rattle.clock_constraints.proofs.array.are_tables.Given as goal

abbrev pub invariant-loop-value : goal.invariant-loop-value
invariant-loop-value l = are_tables (array_view l.values) ≡ are_tables (items_view (drop l.value-index l.values.items))

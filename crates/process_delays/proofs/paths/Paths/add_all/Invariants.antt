use Rattle.std.proofs.Common.{◌≡◌}
use Rattle.flat_unfolding.specs.Delays.{on_both}
use Rattle.process_delays.specs.Paths.{under}
use Rattle.process_delays.proofs.Ways.{listed}
use Rattle.process_delays.proofs.paths.Paths.add_all.Given as goal

abbrev pub invariant-loop-name : goal.invariant-loop-name
invariant-loop-name l = on_both (under l.self) (listed l.name-iterator) ≡ on_both (under l.initial.self) (listed l.other.by_name.entries)

use Rattle.std.proofs.Common.{◌≡◌, ℕ, drop}
use Rattle.std.specs.Prelude.{option_map, slice_get}
use Rattle.flat_unfolding.specs.Design.{Design}
use Rattle.flat_drivers.specs.Driving.{is_among}
use Rattle.flat_design.specs.Finishing.{AreKept, finished_at}
use Rattle.flat_design.proofs.finish.mark_registers.Given as goal

abbrev pub invariant-loop-sig : goal.invariant-loop-sig
invariant-loop-sig l = (d : Design) → AreKept d l.entries l.initial.signals.items → AreKept d l.entries l.signals.items
    × ((s : ℕ) → option_map (finished_at d s (is_among (drop l.sig-index l.registers) s)) (slice_get l.signals.items s) ≡ option_map (finished_at d s (is_among l.registers s)) (slice_get l.initial.signals.items s))

use Rattle.std.proofs.Common.{◌≡◌, ℕ, drop}
use Rattle.std.specs.Prelude.{option_map, slice_get}
use Rattle.flat_drivers.specs.Driving.{is_among}
use Rattle.flat_design.specs.Freeing.{mark_if}
use Rattle.flat_design.proofs.free.mark_driven.Given as goal

abbrev pub invariant-loop-sig : goal.invariant-loop-sig
invariant-loop-sig l = (s : ℕ) → option_map (mark_if (is_among (drop l.sig-index l.driven) s)) (slice_get l.marks.items s) ≡ option_map
    (mark_if (is_among l.driven s)) (slice_get l.initial.marks.items s)

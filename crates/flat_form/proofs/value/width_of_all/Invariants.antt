use Rattle.std.proofs.Common.{◌≡◌, ◌+◌, ◌<◌, ◌^◌, map, drop}
use Rattle.flat_form.specs.Sizes.{sum, kept_of}
use Rattle.flat_form.proofs.value.width_of_all.Given as goal

abbrev pub invariant-loop-part : goal.invariant-loop-part
invariant-loop-part l = sum (map kept_of l.parts) < 2 ^ 64 → sum (map kept_of l.parts) ≡ l.width + sum (map kept_of (drop l.part-index l.parts))

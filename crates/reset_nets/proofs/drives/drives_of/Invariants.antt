use Rattle.std.proofs.Common.{◌≡◌, ℕ, map, take, length, Some, slice_get}
use Rattle.reset_nets.specs.declared.drives.Drive.{Drive}
use Rattle.reset_nets.specs.Finding.{pair_of, Tells}
use Rattle.reset_nets.proofs.drives.drives_of.Given as goal

abbrev pub invariant-loop-number : goal.invariant-loop-number
invariant-loop-number l = record {
  count : length l.drives.items ≡ l.count;
  tells : (s : ℕ) (d : Drive) → slice_get l.drives.items s ≡ Some d → Tells (map pair_of (take l.number l.assigns)) s d;
}

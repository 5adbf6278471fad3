use Rattle.std.proofs.Common.{◌≡◌, ℕ, cond, map, drop, length, slice_get}
use Rattle.std.specs.Prelude.{option_map}
use Rattle.flat_form.specs.View.{target_of, targets_of}
use Rattle.flat_meaning.specs.Flat.{are_targets}
use Rattle.reset_nets.specs.declared.drives.Drive.{Drive}
use Rattle.reset_nets.specs.declared.drives.Drive.TheVariants.{Otherwise}
use Rattle.reset_nets.proofs.drives.+spoil.Given as goal

abbrev pub invariant-spoil_all-loop-target : goal.invariant-spoil_all-loop-target
invariant-spoil_all-loop-target l = record {
  count : length l.drives.items ≡ length l.initial.drives.items;
  noted : (s : ℕ) → option_map (λ (d : Drive). cond (are_targets (targets_of (map target_of (drop l.target-index l.targets))) s) Otherwise d) (slice_get l.drives.items s)
      ≡ option_map (λ (d : Drive). cond (are_targets (targets_of (map target_of l.targets)) s) Otherwise d) (slice_get l.initial.drives.items s);
}

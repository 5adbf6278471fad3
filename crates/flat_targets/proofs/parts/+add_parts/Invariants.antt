use Rattle.std.proofs.Common.{◌≡◌, ◌++◌, map, drop}
use Rattle.flat_form.specs.View.{target_of, targets_of}
use Rattle.flat_targets.specs.Parts.{parts_in}
use Rattle.flat_targets.proofs.parts.+add_parts.Given as goal

abbrev pub invariant-add_parts_of-loop-target : goal.invariant-add_parts_of-loop-target
invariant-add_parts_of-loop-target l = map (λ p. target_of p.now) l.initial.parts.items ++ parts_in (targets_of (map target_of l.targets))
    ≡ map (λ p. target_of p.now) l.parts.items ++ parts_in (targets_of (map target_of (drop l.target-index l.targets)))

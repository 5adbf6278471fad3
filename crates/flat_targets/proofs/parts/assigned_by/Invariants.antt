use Rattle.std.proofs.Common.{map, take}
use Rattle.std.specs.Prelude.{All}
use Rattle.flat_form.specs.View.{target_of}
use Rattle.flat_targets.specs.Parts.{width_among, IsPart, Holds}
use Rattle.flat_targets.proofs.parts.assigned_by.Given as goal

abbrev pub invariant-loop-part : goal.invariant-loop-part
invariant-loop-part l = All IsPart (map (λ p. target_of p.now) l.parts) → Holds (width_among l.entries) (take l.part-index (map (λ p. target_of p.now) l.parts)) l.assigned

-- The rings so far are there with their groups.
use Rattle.std.proofs.Common.{◌≡◌, ◌↔◌, ◌<◌, Some, Contains, slice_get}
use Rattle.mux_recirc.specs.declared.guards.Joint.{Joint}
use Rattle.mux_recirc.proofs.guards.joints_of.Given as goal

abbrev pub invariant-loop-ring : goal.invariant-loop-ring
invariant-loop-ring l = (j : Joint) → Contains l.joints.items j ↔ ((j.ring < l.ring) × (slice_get l.sides j.ring ≡ Some j.sides))

-- All parts are those that are there and those in the rings to come.
use Rattle.std.proofs.Common.{◌≡◌, ◌++◌, drop}
use Rattle.mux_recirc.specs.Parts.{end_bits, parts_from}
use Rattle.mux_recirc.proofs.parts.Parts.of_ends.Given as goal

abbrev pub invariant-loop-ring : goal.invariant-loop-ring
invariant-loop-ring l = parts_from end_bits 0 l.rings ≡ l.entries.items ++ parts_from end_bits l.ring (drop l.ring l.rings)

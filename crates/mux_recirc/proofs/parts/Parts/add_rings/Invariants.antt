-- All rings are those that are there and those of the parts to come.
use Rattle.std.proofs.Common.{◌≡◌, ◌++◌, drop, map}
use Rattle.mux_recirc.specs.declared.parts.Part.{Part}
use Rattle.mux_recirc.proofs.parts.Parts.add_rings.Given as goal

abbrev pub invariant-loop-part : goal.invariant-loop-part
invariant-loop-part l = l.initial.rings.items ++ map (λ (p : Part). p.ring) l.part-items ≡ l.rings.items ++ map (λ (p : Part). p.ring) (drop l.part-index l.part-items)

-- All ends are those that are there and those of the crossings to come.
use Rattle.std.proofs.Common.{◌≡◌, ◌++◌, drop, map}
use Rattle.cdc_model.specs.declared.scheme.Crossing.{Crossing}
use Rattle.mux_recirc.proofs.blind.each_end.Given as goal

abbrev pub invariant-loop-crossing : goal.invariant-loop-crossing
invariant-loop-crossing l = map (λ (k : Crossing). k.to) l.crossings ≡ l.ends.items ++ map (λ (k : Crossing). k.to) (drop l.crossing-index l.crossings)

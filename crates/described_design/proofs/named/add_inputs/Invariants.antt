use Rattle.std.proofs.Common.{◌≡◌, ◌++◌, map, take}
use Rattle.described_design.proofs.named.add_inputs.Given as goal

abbrev pub invariant-loop-input : goal.invariant-loop-input
invariant-loop-input l = l.names ≡ l.initial.names ++ map (λ i. i.name) (take l.input-index l.inputs)

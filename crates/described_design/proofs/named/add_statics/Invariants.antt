use Rattle.std.proofs.Common.{◌≡◌, ◌++◌, take}
use Rattle.described_design.proofs.named.add_statics.Given as goal

abbrev pub invariant-loop-name : goal.invariant-loop-name
invariant-loop-name l = l.names ≡ l.initial.names ++ take l.name-index l.statics

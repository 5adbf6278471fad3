use Rattle.std.proofs.Common.{◌≡◌, ◌++◌, drop, map}
use Rattle.sdc_subset.specs.Arguments.{values}
use Rattle.sdc_subset.proofs.arguments.values.Given as goal

abbrev pub invariant-loop-argument : goal.invariant-loop-argument
invariant-loop-argument l = values l.option l.arguments ≡ map (λ w. w.now) l.values.items ++ values l.option (drop l.argument-index l.arguments)

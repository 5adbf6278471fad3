use Rattle.std.specs.Prelude.{◌≡◌, drop}
use Rattle.flat_unfolding.specs.Resets.{tests_one}
use Rattle.flat_process.proofs.tested.tests_one.Given as goal

abbrev pub invariant-loop-met : goal.invariant-loop-met
invariant-loop-met l = tests_one (drop l.met-index l.inactive) l.left ≡ tests_one l.inactive l.active

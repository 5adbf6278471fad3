use Rattle.std.proofs.Common.{◌≡◌, ◌||◌, map, drop}
use Rattle.cdc_base.specs.Words.{is_in}
use Rattle.flat_unfolding.specs.Outcome.{Text}
use Rattle.process_names.specs.Sets.{has}
use Rattle.process_names.proofs.sets.name_set.Given as goal

abbrev pub invariant-loop-name : goal.invariant-loop-name
invariant-loop-name l = (x : Text) → (has l.set.keys x || is_in (map (λ n. n.now) (drop l.name-index l.names)) x) ≡ is_in (map (λ n. n.now) l.names) x

use Rattle.std.proofs.Common.{◌≡◌, map, drop}
use Rattle.flat_unfolding.specs.Mentions.{first_named}
use Rattle.process_names.specs.Sets.{has}
use Rattle.process_names.proofs.rules.first_in.Given as goal

abbrev pub invariant-loop-name : goal.invariant-loop-name
invariant-loop-name l = first_named (has l.set.keys) (map (λ n. n.now) l.names) ≡ first_named (has l.set.keys) (map (λ n. n.now) (drop l.name-index l.names))

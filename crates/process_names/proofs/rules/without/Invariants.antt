use Rattle.std.proofs.Common.{◌≡◌, ◌++◌, not, map, drop}
use Rattle.std.specs.Prelude.{filter}
use Rattle.process_names.specs.Sets.{has}
use Rattle.process_names.proofs.rules.without.Given as goal

abbrev pub invariant-loop-name : goal.invariant-loop-name
invariant-loop-name l = filter (λ x. not (has l.set.keys x)) (map (λ n. n.now) l.names) ≡ map (λ n. n.now) l.left.items ++ filter (λ x. not (has l.set.keys x)) (map (λ n. n.now) (drop l.name-index l.names))

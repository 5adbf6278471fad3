use Rattle.std.proofs.Common.{drop, map, option_map}
use Rattle.process_delays.specs.Paths.{under}
use Rattle.process_delays.proofs.Walks.{NamesSoFar}
use Rattle.process_delays.proofs.walk.assign_names.Given as goal

abbrev pub invariant-loop-name : goal.invariant-loop-name
invariant-loop-name l = NamesSoFar l.delay (map (λ n. n.now) l.names) (map (λ n. n.now) (drop l.name-index l.names)) (under l.initial.paths) (under l.paths) (option_map (λ n. n.now) l.clash)

use Rattle.std.proofs.Common.{◌≡◌, map, drop, take, []}
use Rattle.clock_constraints.specs.Names.{first_again}
use Rattle.sdc_subset.proofs.names.distinct.Given as goal

abbrev pub invariant-loop-name : goal.invariant-loop-name
invariant-loop-name l = record {
  so_far : l.set ≡ map (λ n. n.now) (take l.name-index l.names);
  no_more : first_again [] (map (λ n. n.now) l.names) ≡ first_again l.set (map (λ n. n.now) (drop l.name-index l.names));
}

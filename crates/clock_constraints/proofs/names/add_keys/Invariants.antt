use Rattle.std.proofs.Common.{◌≡◌, map, ◌++◌, take}
use Rattle.clock_constraints.proofs.names.add_keys.Given as goal

abbrev pub invariant-loop-entry : goal.invariant-loop-entry
invariant-loop-entry g l = map (λ n. n.now) l.names.items ≡ map (λ n. n.now) l.initial.names.items ++ map g.T.Entry.key (take l.entry-index l.entries)

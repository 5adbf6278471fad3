use Rattle.std.proofs.Common.{◌≡◌, ◌++◌, map, take}
use Rattle.sdc_subset.proofs.reader.declared_names.Given as goal

abbrev pub invariant-loop-clock : goal.invariant-loop-clock
invariant-loop-clock l = map (λ n. n.now) l.names.items ≡ map (λ k. k.name) (take l.clock-index l.clock-items)

abbrev pub invariant-loop-input : goal.invariant-loop-input
invariant-loop-input l = map (λ n. n.now) l.names.items ≡ map (λ n. n.now) l.initial.names.items ++ map (λ k. k.name) (take l.input-index l.input-items)

abbrev pub invariant-loop-reset : goal.invariant-loop-reset
invariant-loop-reset l = map (λ n. n.now) l.names.items ≡ map (λ n. n.now) l.initial.names.items ++ map (λ k. k.name) (take l.reset-index l.reset-items)

abbrev pub invariant-loop-name : goal.invariant-loop-name
invariant-loop-name l = map (λ n. n.now) l.names.items ≡ map (λ n. n.now) l.initial.names.items ++ take l.name-index l.name-items

use Rattle.std.proofs.Common.{◌≡◌, ◌≤◌, ◌^◌, ◌++◌, drop, length, vec_len}
use Rattle.std.specs.List.Sorted.{IsStrictlyIncreasing}
use Rattle.settling_sim.specs.Starts.{start_words}
use Rattle.settling_sim.proofs.moment.start_words.Given as goal

abbrev pub invariant-loop-place : goal.invariant-loop-place
invariant-loop-place l = (vec_len l.words ≡ l.place) × (length l.net.graph.signals ≤ 2 ^ 32 → IsStrictlyIncreasing l.domains.statics
    → start_words l.net l.domains 0 l.net.graph.signals ≡ l.words.items ++ start_words l.net l.domains l.place (drop l.place l.net.graph.signals))

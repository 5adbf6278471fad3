use Rattle.std.proofs.Common.{◌≡◌, ◌++◌, map, drop}
use Rattle.elaborate.specs.Words.{as_word}
use Rattle.elaborate.proofs.copied.Given as goal

abbrev pub invariant-loop-signal : goal.invariant-loop-signal
invariant-loop-signal l = l.copies ++ map as_word (drop l.signal-index l.signals) ≡ map as_word l.signals

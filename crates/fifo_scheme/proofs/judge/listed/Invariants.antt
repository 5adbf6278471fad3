-- The columns so far, and those to come.
use Rattle.std.proofs.Common.{◌≡◌, ◌++◌, map}
use Rattle.fifo_scheme.specs.Met.{entry_column}
use Rattle.fifo_scheme.proofs.judge.listed.Given as goal

abbrev pub invariant-loop-words : goal.invariant-loop-words
invariant-loop-words l = map entry_column l.fn.values.entries ≡ l.columns ++ map entry_column l.words-iterator

-- The Gray registers so far.
use Rattle.std.proofs.Common.{◌≡◌, ◌==◌, ℕ, take}
use Rattle.std.specs.HashSet as set
use Rattle.fifo_scheme.specs.Candidates.{is_code_word}
use Rattle.fifo_scheme.proofs.finder.code_words.Given as goal

abbrev pub invariant-loop-gray : goal.invariant-loop-gray
invariant-loop-gray l = (sig : ℕ) → set.contains ◌==◌ l.words sig ≡ is_code_word (take l.gray-index l.grays) sig

use Rattle.std.proofs.Common.{◌≡◌, ◌+◌, ◌-◌, ◌≤◌, ◌^◌, true, length}
use Rattle.flat_form.specs.View.{expr_of}
use Rattle.flat_form.specs.Sizes.{kept_of, is_sized}
use Rattle.flat_unfolding.specs.Names.{Look}
use Rattle.flat_unfolding.specs.Expressions.{words_from}
use Rattle.flat_names.specs.Looks.{memory_of, Shows, IsFit}
use Rattle.flat_names.specs.Selects.{StandsFor}
use Rattle.flat_names.proofs.select.memory_read.Given as goal

-- what is built so far chooses among the words from n on
abbrev pub invariant-loop-n : goal.invariant-loop-n
invariant-loop-n l = record {
  within : 2 ^ (kept_of l.index).width ≤ l.memory.words → l.n ≤ 2 ^ (kept_of l.index).width - 1;
  chosen : (k : Look) → Shows l.look k → IsFit k → l.memory.first + l.memory.words ≤ length k.entries → is_sized l.index ≡ true → 2 ^ (kept_of l.index).width ≤ l.memory.words
      → StandsFor l.read (words_from k (memory_of l.memory) (expr_of l.index) l.n (2 ^ (kept_of l.index).width - 1 - l.n));
}

abbrev pub decreases-loop-n : goal.decreases-loop-n
decreases-loop-n l = l.n

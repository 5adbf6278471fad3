use Rattle.std.specs.Prelude.{◌≡◌, ◌+◌, ◌^◌, ◌≤◌, true}
use Rattle.flat_form.specs.View.{expr_of}
use Rattle.flat_form.specs.Sizes.{is_sized, kept_of}
use Rattle.flat_names.specs.Looks.{memory_of}
use Rattle.flat_statements.proofs.Loops.{WritesSoFar}
use Rattle.flat_statements.proofs.statement.memory_write.Given as goal

abbrev pub invariant-loop-n : goal.invariant-loop-n
invariant-loop-n l = is_sized l.index ≡ true → 2 ^ (kept_of l.index).width ≤ l.memory.words → l.memory.first + l.memory.words ≤ 2 ^ 32
    → WritesSoFar (memory_of l.memory) (expr_of l.index) (expr_of l.value) (is_sized l.value) (2 ^ (kept_of l.index).width) l.n l.writes.items

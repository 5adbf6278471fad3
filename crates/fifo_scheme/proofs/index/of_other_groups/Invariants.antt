-- Those of the bits so far, and of the others.
use Rattle.std.proofs.Common.{◌≡◌, ◌++◌, drop}
use Rattle.std.specs.Prelude.{filter}
use Rattle.fifo_scheme.specs.Indexed.{is_apart}
use Rattle.fifo_scheme.proofs.index.of_other_groups.Given as goal

abbrev pub invariant-loop-other : goal.invariant-loop-other
invariant-loop-other l = filter (is_apart l.domains l.bit) l.bits ≡ l.found ++ filter (is_apart l.domains l.bit) (drop l.other-index l.bits)

-- The flags so far are added.
use Rattle.std.proofs.Common.{◌≡◌, ◌++◌, drop}
use Rattle.fifo_parts.proofs.flags.add_all.Given as goal

abbrev pub invariant-loop-flag : goal.invariant-loop-flag
invariant-loop-flag l = l.initial.found.items ++ l.flags ≡ l.found.items ++ drop l.flag-index l.flags

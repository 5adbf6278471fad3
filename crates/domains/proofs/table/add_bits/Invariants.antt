use Rattle.std.proofs.Common.{◌≡◌, ◌++◌}
use Rattle.domains.specs.Tables.{names_of_bits}
use Rattle.domains.proofs.table.add_bits.Given as goal

abbrev pub invariant-loop-at : goal.invariant-loop-at
invariant-loop-at l = l.names.items ≡ l.initial.names.items ++ names_of_bits l.sig l.signal l.at

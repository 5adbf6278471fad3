use Rattle.std.proofs.Common.{◌≡◌, drop}
use Rattle.clock_constraints.specs.Refusals.{Text}
use Rattle.domains.specs.Tables.{found_in, or_else, named}
use Rattle.domains.proofs.table.bit_table.Given as goal

abbrev pub invariant-loop-name : goal.invariant-loop-name
invariant-loop-name l = (q : Text) → or_else (found_in l.table q) (named (drop l.name-index l.names) q) ≡ named l.names q

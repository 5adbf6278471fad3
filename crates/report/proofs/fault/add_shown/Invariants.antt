use Rattle.std.proofs.Common.{◌≡◌, ◌++◌, take, map}
use Rattle.report.specs.Faults.{shown}
use Rattle.report.proofs.fault.add_shown.Given as goal

abbrev pub invariant-loop-byte : goal.invariant-loop-byte
invariant-loop-byte l = l.text ≡ l.initial.text ++ map shown (take l.byte-index l.name)

use Rattle.std.proofs.Common.{◌≡◌, drop}
use Rattle.std.specs.Str.{bytes_eq}
use Rattle.report.specs.Waived.{after_run}
use Rattle.report.proofs.pattern.ends_with.Given as goal

abbrev pub invariant-loop-place : goal.invariant-loop-place
invariant-loop-place l = after_run (bytes_eq l.tail) l.line ≡ after_run (bytes_eq l.tail) (drop l.place l.line)

-- No entry so far meets the one behind it.
use Rattle.std.proofs.Common.{List, ◌-◌}
use Rattle.cdc_model.specs.declared.scheme.GrayReg.{GrayReg}
use Rattle.cert_check.specs.Meetings.{AreCodes, NoneBefore}
use Rattle.cert_check.proofs.meetings.first_pair.Given as goal

abbrev pub invariant-loop-place : goal.invariant-loop-place
invariant-loop-place l = (grays : List GrayReg) → AreCodes grays l.codes → NoneBefore grays l.entries (l.place - 1)

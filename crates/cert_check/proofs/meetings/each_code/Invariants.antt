-- All codes are those that are there and those to come.
use Rattle.std.proofs.Common.{◌≡◌, ◌++◌, map, drop}
use Rattle.cdc_model.specs.declared.scheme.GrayReg.{GrayReg}
use Rattle.cert_check.proofs.meetings.each_code.Given as goal

abbrev pub invariant-loop-gray : goal.invariant-loop-gray
invariant-loop-gray l = map (λ (y : GrayReg). y.gray) l.grays ≡ l.codes.items ++ map (λ (y : GrayReg). y.gray) (drop l.gray-index l.grays)

-- What the constraints in SDC say.
use Rattle.std.proofs.Common.{refl}
use Rattle.sdc_subset.specs.Commands.{is_passed_over}
use Rattle.sdc_subset.specs.Forms.{kind_of}
use Rattle.worked_audit.specs.Laws.{ConstraintsAreSaid}

pub constraints_are_said : ConstraintsAreSaid
unfolding is_passed_over kind_of
constraints_are_said = refl

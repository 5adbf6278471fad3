use Rattle.std.proofs.Common.{◌≡◌, subst, Result, Err}
use Rattle.std.specs.Prelude.{IfErr}
use Rattle.cdc_base.specs.declared.fault.Stop.{Stop}
use Rattle.cdc_base.specs.declared.fault.Stop.TheVariants.{Refused}
use Rattle.refusals.specs.Numbers.{HasNumberIn}
use Rattle.refusals.proofs.Listed.{among}
use Rattle.command_files.specs.Files.{numbers_of}
use Rattle.command_files.proofs.answer.or_refused.Goals as goal

pub returns-in-Err-Refused-clause-ended : goal.returns-in-Err-Refused-clause-ended
returns-in-Err-Refused-clause-ended g c =
    let refused : c.args.given ≡ Err (Refused c.in-Err-Refused.fault) = cc in
    λ numbers all has. among numbers (numbers_of c.args.status) (Refused c.in-Err-Refused.fault) all
    (subst (λ (r : Result _ Stop). IfErr r (HasNumberIn numbers)) refused has)

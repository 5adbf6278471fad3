use Rattle.std.proofs.Common.{refl}
use Rattle.refusals.specs.Numbers.{crossing_numbers}
use Rattle.cdc_model.specs.Facts.{none_extra}
use Rattle.audit_command.specs.Refused.{AreTooMany}
use Rattle.audit_command.proofs.Refused.{crossings_cause}
use Rattle.described_design.proofs.Designs.{given_holds}
use Rattle.described_design.proofs.Refused.{caused}
use Rattle.net_verdict.specs.Verdicts.{IsVerdictOn}
use Rattle.selftest_command.proofs.Selftests.{on_design}
use Rattle.selftest_command.proofs.verdict_on.Goals as goal

pub returns-clause-of_files : goal.returns-clause-of_files
returns-clause-of_files c = c.or_refused.ensures.ended crossing_numbers refl c.audit.ensures.numbered

pub returns-clause-exact : goal.returns-clause-exact
returns-clause-exact c = λ can.
    let net = c.args.net.now in
    let domains = c.args.domains.now in
    given_holds (IsVerdictOn none_extra net domains) _ _ c.or_refused.ensures.given (on_design net domains can c.audit.result c.audit.ensures.exact c.audit.ensures.sound c.audit.ensures.together)

pub returns-clause-refused : goal.returns-clause-refused
returns-clause-refused c = λ can.
    let net = c.args.net.now in
    let domains = c.args.domains.now in
    caused (λ status fault. AreTooMany net domains fault status) _ _ _ c.or_refused.ensures.exact (crossings_cause net domains can _ c.audit.ensures.full)

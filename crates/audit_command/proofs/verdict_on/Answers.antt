use Rattle.std.proofs.Common.{Result, Ok, Err, refl}
use Rattle.std.specs.Prelude.{IfOk}
use Rattle.refusals.specs.Numbers.{crossing_numbers}
use Rattle.audit_command.specs.Refused.{AreTooMany}
use Rattle.audit_command.proofs.Refused.{crossings_cause}
use Rattle.described_design.proofs.Designs.{given_holds}
use Rattle.described_design.proofs.Refused.{caused}
use Rattle.net_verdict.specs.Judged.{IsJudged}
use Rattle.audit_command.proofs.verdict_on.Goals as goal

under : {V E C : Type 0} (P : V → Type 0) (r : Result V E) → C → IfOk r (λ v. C → P v) → IfOk r P
under P (Ok v) c h = h c
under P (Err e) c h = tt

pub returns-clause-of_files : goal.returns-clause-of_files
returns-clause-of_files c = c.or_refused.ensures.ended crossing_numbers refl c.judge.ensures.numbered

pub returns-clause-exact : goal.returns-clause-exact
returns-clause-exact c = λ can.
    given_holds (IsJudged c.args.net.now c.args.domains.now) _ _ c.or_refused.ensures.given (under (IsJudged c.args.net.now c.args.domains.now) c.judge.result can c.judge.ensures.exact)

pub returns-clause-refused : goal.returns-clause-refused
returns-clause-refused c = λ can.
    let net = c.args.net.now in
    let domains = c.args.domains.now in
    caused (λ status fault. AreTooMany net domains fault status) _ _ _ c.or_refused.ensures.exact (crossings_cause net domains can _ c.judge.ensures.full)

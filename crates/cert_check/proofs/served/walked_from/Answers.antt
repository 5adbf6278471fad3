-- By whether the bits are of different groups, and whether the crossing is served.
use Rattle.std.proofs.Common.{◌∙◌, sym}
use Rattle.cert_check.proofs.FirstFailing.{other}
use Rattle.cert_check.proofs.Walks.{walked_none, walked_one, bare_one}
use Rattle.cert_check.proofs.served.walked_from.Goals as goal

pub returns-then-not-are_apart : goal.returns-then-not-are_apart
returns-then-not-are_apart c = λ sorted. walked_none c.args.domains.now c.args.to c.args.served.now c.args.from (sym c.are_apart.ensures ∙ c.if-not-are_apart.true)

pub returns-then-is_served : goal.returns-then-is_served
returns-then-is_served c = λ sorted. walked_one c.args.domains.now c.args.to c.args.served.now c.args.from (sym c.are_apart.ensures ∙ c.if-not-are_apart.false) ((c.is_served.ensures sorted).0 c.if-is_served.true)

pub returns-else-is_served : goal.returns-else-is_served
returns-else-is_served c = λ sorted. bare_one c.args.domains.now c.args.to c.args.served.now c.args.from (sym c.are_apart.ensures ∙ c.if-not-are_apart.false)
    (λ h. other (sym c.if-is_served.false ∙ (c.is_served.ensures sorted).1 h))

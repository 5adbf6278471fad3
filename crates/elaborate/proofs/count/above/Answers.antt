use Rattle.std.proofs.Common.{◌≡◌, ◌≤◌, ◌∙◌, ap, arith}
use Rattle.elaborate.specs.Counts.{capped}
use Rattle.elaborate.proofs.Counts.{above-both, above-none}
use Rattle.elaborate.proofs.count.above.Goals as goal

pub returns-then-bits-eq0 : goal.returns-then-bits-eq0
returns-then-bits-eq0 c = λ t u m high low some. high ∙ ap capped (above-none m c.args.bits t u c.if-bits-eq0.true)

pub returns-else-bits-eq0 : goal.returns-else-bits-eq0
returns-else-bits-eq0 c = λ t u m high low some.
    let more : 1 ≤ c.args.bits = omega (arith, c.if-bits-eq0.false) in
    omega (arith, high, low more, above-both m c.args.bits t u some more, c.saturating_add.ensures, c.saturating_add-else-bits-eq0.ensures)

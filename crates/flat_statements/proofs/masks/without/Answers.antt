use Rattle.std.proofs.Common.{◌-◌, ap, ◌∙◌}
use Rattle.flat_names.proofs.Options.{ok-map}
use Rattle.flat_statements.proofs.Tests.{without-some}
use Rattle.flat_statements.proofs.masks.without.Goals as goal

pub returns : goal.returns
returns c = let o = c.args.opened in
    ok-map c.binary_expr.result
    (λ e m. without-some c.args.size o c.saturating_sub.result _ c.args.subject e c.if-opened-eq0.false (c.saturating_sub.ensures ∙ ap (λ n. n - o) c.low_bits.ensures.ones) m) c.binary_expr.ensures

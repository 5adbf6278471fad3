use Rattle.std.proofs.Common.{sym, ◌∙◌}
use Rattle.flat_names.proofs.Options.{ok-map}
use Rattle.flat_names.proofs.Over.{over-plain, over-opposite}
use Rattle.flat_names.proofs.resolved.unary_expr.Goals as goal

pub returns-in-Some : goal.returns-in-Some
returns-in-Some c = ok-map c.plain_expr.result (over-plain c.args.op c.in-Some.op c.args.a (sym c.plain_unary.ensures ∙ c.in-Some.is)) c.plain_expr.ensures

pub returns-in-None : goal.returns-in-None
returns-in-None c = ok-map c.opposite.result (over-opposite c.args.op c.args.a (sym c.plain_unary.ensures ∙ c.in-None.is)) c.opposite.ensures

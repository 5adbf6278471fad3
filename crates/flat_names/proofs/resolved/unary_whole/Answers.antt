use Rattle.std.proofs.Common.{sym, ◌∙◌}
use Rattle.flat_names.proofs.Wholes.{plain-whole, minus-whole}
use Rattle.flat_names.proofs.resolved.unary_whole.Goals as goal

pub returns-in-Some : goal.returns-in-Some
returns-in-Some c = λ l f. c.whole_unary.ensures l f ∙ plain-whole c.args.op c.in-Some.op c.args.size c.args.a (sym c.plain_unary.ensures ∙ c.in-Some.is)

pub returns-in-None : goal.returns-in-None
returns-in-None c = λ l f. c.whole_binary.ensures ∙ minus-whole c.args.op c.args.size c.args.a (sym c.plain_unary.ensures ∙ c.in-None.is)

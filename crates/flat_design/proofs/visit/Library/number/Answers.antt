use Rattle.std.proofs.Common.{sym, subst, ◌∙◌}
use Rattle.flat_design.specs.Visiting.{IsNumber}
use Rattle.flat_design.proofs.visit.Library.number.Goals as goal

pub returns : goal.returns
returns c = λ h. subst (IsNumber c.args.self.now.modules.now c.args.name.now) (sym (c.copied.ensures ∙ c.get.ensures.value)) (h.numbers c.args.name.now)

use Rattle.std.proofs.Common.{◌∙◌}
use Rattle.flat_targets.proofs.Aimed.{aim-whole}
use Rattle.flat_targets.proofs.target.whole.Goals as goal

pub returns : goal.returns
returns c = λ l h i. aim-whole c.args.look.now l h c.args.sig i c.from.result (c.from.ensures ∙ c.width.ensures)

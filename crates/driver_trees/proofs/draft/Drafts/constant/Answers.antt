-- A number has no operand.
use Rattle.std.proofs.Common.{refl}
use Rattle.driver_trees.proofs.draft.Drafts.constant.Goals as goal

pub returns : goal.returns
returns c = record { built = λ wid are l m v. c.add.ensures.built wid c.args.width are (refl, l, m, v) }

use Rattle.std.proofs.Common.{◌∙◌, ap}
use Rattle.cofactor.specs.Marks.{bits_met}
use Rattle.cofactor.proofs.MarkLists.{first-none}
use Rattle.cofactor.proofs.marks.Marks.first.Goals as goal

pub returns-in-Ok : goal.returns-in-Ok
returns-in-Ok c = ap (bits_met 1) (c.in-Ok.ensures.items_if_clones_equal (λ y e. e)) ∙ first-none c.args.places

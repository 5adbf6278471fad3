use Rattle.std.proofs.Common.{◌∙◌, ap, Bool, Option}
use Rattle.cofactor.specs.Masks.{masks_of}
use Rattle.cofactor.proofs.Shown.{equal-is}
use Rattle.cofactor.proofs.masks.equal_of.Goals as goal

pub returns : goal.returns
returns c = λ k l small e f. c.judged.ensures ∙ ap (λ (o : Option Bool). masks_of (λ i. o) 1) (equal-is k l c.args.width c.args.a c.args.b c.mask.result small e f c.mask.ensures)

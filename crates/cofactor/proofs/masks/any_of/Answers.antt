use Rattle.std.proofs.Common.{◌∙◌, ap, Bool, Option}
use Rattle.cofactor.specs.Masks.{masks_of}
use Rattle.cofactor.proofs.Shown.{any-is}
use Rattle.cofactor.proofs.masks.any_of.Goals as goal

pub returns : goal.returns
returns c = λ k small e. c.judged.ensures ∙ ap (λ (o : Option Bool). masks_of (λ i. o) 1) (any-is k c.args.width c.args.a small e c.is_whole.result (c.is_whole.ensures k small e))

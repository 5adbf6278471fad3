use Rattle.cofactor.proofs.Shown.{word-shown}
use Rattle.cofactor.proofs.masks.Masks.of_word.Goals as goal

pub returns : goal.returns
returns c = λ small. word-shown c.args.value c.mask-ones.result c.args.width small c.mask-ones.ensures

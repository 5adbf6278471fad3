use Rattle.std.proofs.Common.{◌∙◌, sym, true, false}
use Rattle.cofactor.proofs.Shown.{word-is}
use Rattle.cofactor.proofs.masks.Masks.word.Goals as goal

pub returns-then-is_whole : goal.returns-then-is_whole
returns-then-is_whole c = λ k small e. word-is k c.args.width c.args.self e true (sym c.if-is_whole.true ∙ c.is_whole.ensures k small e)

pub returns-else-is_whole : goal.returns-else-is_whole
returns-else-is_whole c = λ k small e. word-is k c.args.width c.args.self e false (sym c.if-is_whole.false ∙ c.is_whole.ensures k small e)

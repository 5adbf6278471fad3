use Rattle.source_forms.proofs.Texts.{numbers_fit}
use Rattle.source_forms.proofs.lexed_numbers_fit.Goals as goal

pub returns : goal.returns
returns c = numbers_fit

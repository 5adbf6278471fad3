-- By recursion on the word.
use Rattle.cdc_model.proofs.Codes.{gray_differs}
use Rattle.cdc_model.proofs.laws.codes_differ_in_one.Goals as goal

pub returns : goal.returns
returns c = gray_differs

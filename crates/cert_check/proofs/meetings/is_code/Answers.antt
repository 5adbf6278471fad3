-- By where the search ends.
use Rattle.std.proofs.Common.{◌∙◌}
use Rattle.cert_check.proofs.Neighbours.{found_code}
use Rattle.cert_check.proofs.meetings.is_code.Goals as goal

pub returns : goal.returns
returns c = λ grays are. c.is_ok.ensures.value ∙ found_code grays c.args.codes.now c.args.word c.binary_search.result are c.binary_search.ensures.position

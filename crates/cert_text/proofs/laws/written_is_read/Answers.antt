-- Line by line.
use Rattle.cert_text.proofs.Written.{written_is_read}
use Rattle.cert_text.proofs.laws.written_is_read.Goals as goal

pub returns : goal.returns
returns c = λ signals cert can. written_is_read signals cert can

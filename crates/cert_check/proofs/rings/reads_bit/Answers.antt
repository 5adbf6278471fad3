-- The bit is among all that are read where it is read.
use Rattle.std.proofs.Common.{◌∙◌, []}
use Rattle.cert_check.proofs.FirstFlops.{reads_is, register_within}
use Rattle.cert_check.proofs.rings.reads_bit.Goals as goal

pub returns-clause-exact : goal.returns-clause-exact
returns-clause-exact c = λ is has shown reg.
    c.contains.ensures.value
    ∙ reads_is c.args.net.now is has c.args.bit c.args.read reg c.as_slice.result.now (c.as_slice.ensures ∙ c.in_ok-reads.ensures.exact [] is has shown (register_within c.args.net.now c.args.bit reg))

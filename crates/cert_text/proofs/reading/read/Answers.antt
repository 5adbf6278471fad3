-- What was read has no more items than the text has bytes.
use Rattle.std.proofs.Common.{◌≤◌, ◌^◌, length}
use Rattle.cert_text.proofs.Counts.{few_read}
use Rattle.cert_text.proofs.reading.read.Goals as goal

pub returns-clause-few : goal.returns-clause-few
returns-clause-few c = few_read c.certificate_in.result c.args.net.now.graph.signals c.args.text.now (length c.args.net.now.graph.signals ≤ 2 ^ 32) c.certificate_in.ensures.gives

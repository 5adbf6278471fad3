use Rattle.std.proofs.Common.{◌∙◌, sym}
use Rattle.cert_text.specs.Read.{at_end}
use Rattle.cert_text.specs.Words.{lines_of}
use Rattle.cert_text.proofs.Cuts.{not_empty}
use Rattle.cert_text.proofs.Stops.{stop_gives, not_at_end}
use Rattle.cert_text.proofs.reading.at_end.Goals as goal

pub returns-else-is_empty-clause-gives : goal.returns-else-is_empty-clause-gives
returns-else-is_empty-clause-gives c = stop_gives c.broken_line.result c.args.number (at_end c.args.number c.args.certificate (lines_of c.args.behind.now)) c.broken_line.ensures.stop
    (not_at_end c.args.number c.args.certificate c.args.behind.now (not_empty c.args.behind.now (sym c.is_empty.ensures ∙ c.if-is_empty.false)))

use Rattle.std.proofs.Common.{◌≡◌, ◌≤◌, ◌+◌, List, length}
use Rattle.cdc_base.specs.declared.signal.Signal.{Signal}
use Rattle.cert_text.specs.Read.{empty, lines_read}
use Rattle.cert_text.specs.Tables.{HasNames}
use Rattle.cert_text.specs.Words.{lines_of}
use Rattle.cert_text.proofs.reading.read_lines.Given as goal

abbrev pub invariant-loop-rest : goal.invariant-loop-rest
invariant-loop-rest l = record {
  same : (signals : List Signal) → HasNames signals l.names → lines_read signals l.places 0 2 empty (lines_of l.text) ≡ lines_read signals l.places l.kind l.number l.certificate (lines_of l.rest);
  few : l.number + length l.rest ≤ 2 + length l.text;
}

abbrev pub decreases-loop-rest : goal.decreases-loop-rest
decreases-loop-rest l = length l.rest

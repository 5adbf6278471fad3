-- The words of a ring's line as the code has them.
use Rattle.std.specs.Prelude.{Option, None, Some}
use Rattle.cert_text.specs.declared.entry.RingWords.{RingWords as Parted}
use Rattle.cert_text.specs.Read.{RingWords}

abbrev pub told : Option Parted → Option RingWords
told None = None
told (Some r) = Some (record { names = r.names.now; end = r.end.now; ack = r.ack.now })

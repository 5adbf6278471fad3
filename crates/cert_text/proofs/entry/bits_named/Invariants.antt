use Rattle.std.proofs.Common.{◌≡◌, List, drop}
use Rattle.cdc_base.specs.declared.signal.Signal.{Signal}
use Rattle.cert_text.specs.Names.{bits_named}
use Rattle.cert_text.specs.Tables.{HasNames}
use Rattle.cert_text.proofs.Named.{in_fronts}
use Rattle.cert_text.proofs.entry.bits_named.Given as goal

abbrev pub invariant-loop-word : goal.invariant-loop-word
invariant-loop-word l = (signals : List Signal) → HasNames signals l.names → bits_named signals l.words ≡ in_fronts l.bits (bits_named signals (drop l.word-index l.words))
